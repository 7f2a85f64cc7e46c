-- Runs of two programs that answer alike what is asked.
use Rattle.std.proofs.Common.{◌≡◌, ℕ, zero, suc, refl, ap, ◌∙◌}
use Rattle.jvm_model.specs.Plans.{Oracle, Plan, ends, asks, end_of}
use Rattle.jvm_model.specs.States.{State}
use Rattle.jvm_model.specs.Frames.{Move, goes, finishes, needs, stuck}
use Rattle.jvm_model.specs.Steps.{step, supply}
use Rattle.jvm_model.specs.Runs.{Run, Files, on_supplied, on_move, run, AskAlike, SuppliedAlike, MovesAlike, RunsAlike, AlikeRunsAreEqual}

module _ (p q : Oracle) where
  same_end : {A : Type 0} → (plan : Plan A) → AskAlike p q plan → end_of p plan ≡ end_of q plan
  same_end (ends a) alike = refl
  same_end (asks l next) alike = same_end (next (p l)) alike.1 ∙ ap (λ a. end_of q (next a)) alike.0

  module _ (files : Files) (Rest : State → Type 0) (f g : State → Run) (rest : (t : State) → Rest t → f t ≡ g t) where
    same_supplied : (m : Move) → SuppliedAlike m Rest → on_supplied m f ≡ on_supplied m g
    same_supplied (goes t) alike = rest t alike
    same_supplied (finishes ending w) alike = refl
    same_supplied (needs need t) alike = refl
    same_supplied stuck alike = refl

    same_move : (m : Move) → MovesAlike p q files m Rest → on_move p files m f ≡ on_move q files m g
    same_move (goes t) alike = rest t alike
    same_move (finishes ending w) alike = refl
    same_move (needs need t) alike =
        same_supplied (end_of p (supply (files need) t)) alike.1 ∙ ap (λ m. on_supplied m g) (same_end (supply (files need) t) alike.0)
    same_move stuck alike = refl

  same_run : (files : Files) (left : ℕ) (s : State) → RunsAlike p q files left s → run p files left s ≡ run q files left s
  unfolding run RunsAlike
  same_run files zero s alike = refl
  same_run files (suc left) s alike =
      same_move files (RunsAlike p q files left) (run p files left) (run q files left) (same_run files left) (end_of p (step s)) alike.1
      ∙ ap (λ m. on_move q files m (run q files left)) (same_end (step s) alike.0)

pub alike_runs_are_equal : AlikeRunsAreEqual
alike_runs_are_equal p q files left s alike = same_run p q files left s alike
