-- A run that has ended goes no further.
use Rattle.std.proofs.Common.{◌≡◌, ℕ, zero, suc, ◌+◌, refl, ap, ◌∙◌, arith}
use Rattle.jvm_model.specs.Plans.{Oracle, end_of}
use Rattle.jvm_model.specs.States.{State}
use Rattle.jvm_model.specs.Frames.{Move, goes, finishes, needs, stuck}
use Rattle.jvm_model.specs.Steps.{step, supply}
use Rattle.jvm_model.specs.Runs.{Run, Files, on_supplied, on_move, run, EndsEarlier, RunsGoNoFurther}

module _ (oracle : Oracle) (files : Files) (f g : State → Run) (rest : (t : State) → EndsEarlier (f t) → g t ≡ f t) where
  further_supplied : (m : Move) → EndsEarlier (on_supplied m f) → on_supplied m g ≡ on_supplied m f
  further_supplied (goes t) early = rest t early
  further_supplied (finishes ending w) early = refl
  further_supplied (needs need t) early = refl
  further_supplied stuck early = refl

  further_move : (m : Move) → EndsEarlier (on_move oracle files m f) → on_move oracle files m g ≡ on_move oracle files m f
  further_move (goes t) early = rest t early
  further_move (finishes ending w) early = refl
  further_move (needs need t) early = further_supplied (end_of oracle (supply (files need) t)) early
  further_move stuck early = refl

run_further : (oracle : Oracle) (files : Files) (left more : ℕ) (s : State) → EndsEarlier (run oracle files left s) → run oracle files (left + more) s ≡ run oracle files left s
unfolding run
run_further oracle files zero more s early = absurd early
run_further oracle files (suc left) more s early =
    let n : suc left + more ≡ suc (left + more) = omega arith in
    ap (λ k. run oracle files k s) n
    ∙ further_move oracle files (run oracle files left) (run oracle files (left + more)) (λ t e. run_further oracle files left more t e) (end_of oracle (step s)) early

pub runs_go_no_further : RunsGoNoFurther
runs_go_no_further = run_further
