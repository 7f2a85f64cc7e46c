-- What a script leads to: each reply is that from scratch, and the results stand for all runs and lost names.
use Rattle.std.proofs.Common.{◌≡◌, ℕ, List, [], ◌∷◌, Option, Some, None, IfSome, sym, ap, subst, ◌∙◌}
use Rattle.io_traits.specs.Files.{Files}
use Rattle.mill_top.specs.declared.replay_steps.ReplayStep.{ReplayStep}
use Rattle.mill_top.specs.declared.replay_steps.ReplayStep.TheVariants.{Edit, Lose, Run}
use Rattle.mill_top.specs.Answers.{IsFromScratch, all_texts}
use Rattle.mill_top.specs.Inputs.{Clean}
use Rattle.mill_top.specs.Inputs as inputs
use Rattle.mill_top.specs.Replays.{Ran, State, IsRan, Lead, runs_after, lost_after, AreClean, AreFromScratch}
use Rattle.mill_top.specs.Standing.{StandsIn}
use Rattle.mill_top.proofs.LossLaws.{stands_without}

-- what is shown of a state that steps led to
abbrev pub Holds : List inputs.Run → List (List ℕ) → List ReplayStep → List Ran → Files → Type 0
Holds runs lost made commands results = AreFromScratch commands × StandsIn (Some results) (runs_after runs commands) (lost_after lost made)

both : {A : Type 0} (P Q : A → Type 0) (o : Option A) → IfSome o P → IfSome o (λ a. P a → Q a) → IfSome o Q
both P Q None p f = tt
both P Q (Some a) p f = f p

holds_run : (runs : List inputs.Run) (lost : List (List ℕ)) (words : List (List ℕ)) (environment : List (List ℕ × List ℕ)) (moment : ℕ) (earlier : List ReplayStep) (before end : State) (ran : Ran)
    → IsRan words environment moment before.store before.workspace end.store end.workspace ran
    → AreClean runs (ran ∷ before.commands) → Holds runs lost earlier before.commands before.store.contents
    → Holds runs lost (Run words environment moment ∷ earlier) (ran ∷ before.commands) end.store.contents
holds_run runs lost words environment moment earlier before end ran is clean holds =
    let now = runs_after runs before.commands in
    let gone = lost_after lost earlier in (
      (holds.0, both (λ inputs. Clean (all_texts inputs now)) (λ inputs. IsFromScratch inputs ran.command.reply) ran.command.inputs clean.1 (is.from_scratch now gone holds.1)),
      is.stands now gone holds.1 clean.1,
    )

-- each reply is that from scratch, and the results stand for all runs and lost names
pub sound : (made : List ReplayStep) (start end : State) (runs : List inputs.Run) (lost : List (List ℕ)) → start.commands ≡ [] → Lead made start end
    → StandsIn (Some start.store.contents) runs lost → AreClean runs end.commands → Holds runs lost made end.commands end.store.contents
sound [] start end runs lost none lead stands clean =
    let nothing : end.commands ≡ [] = ap (λ s. s.commands) lead ∙ none in
    let Kept : List Ran → Type 0 = λ commands. Holds runs lost [] commands end.store.contents in
    subst Kept (sym nothing) (tt, subst (λ s. StandsIn (Some s.store.contents) runs lost) (sym lead) stands)
sound (Edit path bytes ∷ earlier) start end runs lost none (before, lead, next) stands clean =
    subst (λ s. Holds runs lost (Edit path bytes ∷ earlier) s.commands s.store.contents) (sym next)
    (sound earlier start before runs lost none lead stands (subst (λ s. AreClean runs s.commands) next clean))
sound (Lose name ∷ earlier) start end runs lost none (before, lead, next) stands clean =
    let holds = sound earlier start before runs lost none lead stands (subst (λ s. AreClean runs s.commands) next clean) in
    subst (λ s. Holds runs lost (Lose name ∷ earlier) s.commands s.store.contents) (sym next)
    (holds.0, stands_without before.store.contents (runs_after runs before.commands) (lost_after lost earlier) name holds.1)
sound (Run words environment moment ∷ earlier) start end runs lost none (before, lead, (ran, more, is)) stands clean =
    let clean_all = subst (AreClean runs) more clean in
    subst (λ commands. Holds runs lost (Run words environment moment ∷ earlier) commands end.store.contents) (sym more)
    (holds_run runs lost words environment moment earlier before end ran is clean_all (sound earlier start before runs lost none lead stands clean_all.0))

-- steps leave the plans of calls that are to fail
pub same_plans : (made : List ReplayStep) (start end : State) → Lead made start end → (end.store.plan.failing ≡ start.store.plan.failing) × (end.workspace.plan.failing ≡ start.workspace.plan.failing)
same_plans [] start end lead = (ap (λ s. s.store.plan.failing) lead, ap (λ s. s.workspace.plan.failing) lead)
same_plans (Edit path bytes ∷ earlier) start end (before, lead, next) =
    let same = same_plans earlier start before lead in
    (ap (λ s. s.store.plan.failing) next ∙ same.0, ap (λ s. s.workspace.plan.failing) next ∙ same.1)
same_plans (Lose name ∷ earlier) start end (before, lead, next) =
    let same = same_plans earlier start before lead in
    (ap (λ s. s.store.plan.failing) next ∙ same.0, ap (λ s. s.workspace.plan.failing) next ∙ same.1)
same_plans (Run words environment moment ∷ earlier) start end (before, lead, (ran, more, is)) =
    let same = same_plans earlier start before lead in
    (is.same_store.plan ∙ same.0, is.same_workspace.plan ∙ same.1)
