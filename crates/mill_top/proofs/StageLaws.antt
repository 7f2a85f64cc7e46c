-- A script from step to step, and at its end.
use Rattle.std.proofs.Common.{◌≡◌, ℕ, ◌+◌, ◌<◌, ◌≤◌, List, [], ◌∷◌, ◌++◌, map, reverse, take, drop, length, get_or, Result, Ok, Err, IfOk, OnOk, inl, inr, ◌⊎◌, refl, sym, ap, subst, ◌∙◌}
use Rattle.io_traits.specs.declared.mem_stores.MemStore.{MemStore}
use Rattle.io_traits.specs.declared.mem_workspaces.MemWorkspace.{MemWorkspace}
use Rattle.mill_top.specs.declared.replay.Stage.{Stage}
use Rattle.mill_top.specs.declared.replay_steps.ReplayFault.{ReplayFault}
use Rattle.mill_top.specs.declared.replay_steps.ReplayStep.{ReplayStep}
use Rattle.mill_top.specs.declared.replay_steps.ReplayStep.TheVariants.{Edit, Lose, Run}
use Rattle.mill_top.specs.declared.replay_steps.Answered.{Answered}
use Rattle.mill_top.specs.Replays.{IsEnded, IsRan, IsReplay, Lead, takes_of, answered}
use Rattle.mill_top.specs.Stages.{state_of, IsAsBefore, HasRunTo, Makes, MakesWhole, Reached, ReachedWhole}
use Rattle.std.proofs.lemmas.List.{append-nil, reverse-append, reverse-reverse, take_more, take_all, take-append-drop}
use Rattle.mill_top.proofs.LossLaws.{stands_empty}
use Rattle.mill_top.proofs.ReplayLaws.{sound, same_plans}
use Rattle.mill_top.proofs.WalkLaws.{reverse-cons}

-- what holds of a result that is `Ok`, and what follows from it
pub on_ok : {T E : Type 0} (result : Result T E) (P Q : Type 0) → (P → Q) → OnOk result P → OnOk result Q
on_ok (Ok value) P Q f p = f p
on_ok (Err fault) P Q f p = tt

-- no step yet
pub reached_first : (stage : Stage) → stage.takes.items ≡ [] → stage.replies.items ≡ [] → ReachedWhole stage.store stage.workspace [] stage
reached_first stage no_takes no_replies = (record { commands = []; lead = refl; takes = no_takes; replies = no_replies }, tt)

-- a command that was run over a stage that is as it was
pub run_since : (status : ℕ) (words : List (List ℕ)) (environment : List (List ℕ × List ℕ)) (moment : ℕ) (old mid new : Stage) → IsAsBefore old mid → HasRunTo status words environment moment mid new → HasRunTo status words environment moment old new
run_since status words environment moment old mid new still (run, ends) = (
  record {
    ran = run.ran;
    is_ran =
        subst (λ s. IsRan words environment moment s old.workspace new.store new.workspace run.ran) still.store
        (subst (λ w. IsRan words environment moment mid.store w new.store new.workspace run.ran) still.workspace run.is_ran);
    takes = run.takes ∙ ap (λ all. all ++ takes_of run.ran ∷ []) still.takes;
    replies = run.replies ∙ ap (λ all. all ++ answered run.ran ∷ []) still.replies;
  },
  ends,
)

-- a stage that is as it was
pub reached_still : (store : MemStore) (workspace : MemWorkspace) (made : List ReplayStep) (old new : Stage) → IsAsBefore old new → Reached store workspace made old → Reached store workspace made new
reached_still store workspace made old new still reached = record {
  commands = reached.commands;
  lead = subst (λ s. Lead made (state_of store workspace []) (state_of s new.workspace reached.commands)) (sym still.store)
      (subst (λ w. Lead made (state_of store workspace []) (state_of old.store w reached.commands)) (sym still.workspace) reached.lead);
  takes = still.takes ∙ reached.takes;
  replies = still.replies ∙ reached.replies;
}

-- one step more
pub reached_next : (store : MemStore) (workspace : MemWorkspace) (made : List ReplayStep) (step : ReplayStep) (old new : Stage) → Makes step old new → Reached store workspace made old → Reached store workspace (step ∷ made) new
reached_next store workspace made (Edit path bytes) old new makes reached = record {
  commands = reached.commands;
  lead = (state_of old.store old.workspace reached.commands, reached.lead, ap (λ s. state_of s.store s.workspace reached.commands) makes);
  takes = ap (λ s. s.takes.items) makes ∙ reached.takes;
  replies = ap (λ s. s.replies.items) makes ∙ reached.replies;
}
reached_next store workspace made (Lose name) old new makes reached = record {
  commands = reached.commands;
  lead = (state_of old.store old.workspace reached.commands, reached.lead, ap (λ s. state_of s.store s.workspace reached.commands) makes);
  takes = ap (λ s. s.takes.items) makes ∙ reached.takes;
  replies = ap (λ s. s.replies.items) makes ∙ reached.replies;
}
reached_next store workspace made (Run words environment moment) old new makes reached = record {
  commands = makes.ran ∷ reached.commands;
  lead = (state_of old.store old.workspace reached.commands, reached.lead, (makes.ran, refl, makes.is_ran));
  takes = makes.takes ∙ ap (λ all. all ++ takes_of makes.ran ∷ []) reached.takes ∙ sym (reverse-cons (takes_of makes.ran) (map takes_of reached.commands));
  replies = makes.replies ∙ ap (λ all. all ++ answered makes.ran ∷ []) reached.replies ∙ sym (reverse-cons (answered makes.ran) (map answered reached.commands));
}

-- the same, of commands that are shown whole
reached_whole : (store : MemStore) (workspace : MemWorkspace) (made : List ReplayStep) (step : ReplayStep) (old new : Stage) → MakesWhole step old new → ReachedWhole store workspace made old → ReachedWhole store workspace (step ∷ made) new
unfolding reached_next
reached_whole store workspace made (Edit path bytes) old new makes (reached, whole) = (reached_next store workspace made (Edit path bytes) old new makes reached, whole)
reached_whole store workspace made (Lose name) old new makes (reached, whole) = (reached_next store workspace made (Lose name) old new makes reached, whole)
reached_whole store workspace made (Run words environment moment) old new makes (reached, whole) =
    (reached_next store workspace made (Run words environment moment) old new makes.0 reached, (makes.1, whole))

made_more : (script : List ReplayStep) (i : ℕ) (step : ReplayStep) → i < length script → step ≡ get_or script i step → step ∷ reverse (take i script) ≡ reverse (take (i + 1) script)
made_more script i step within is = sym (ap reverse (take_more script i step within ∙ ap (λ s. take i script ++ s ∷ []) (sym is)) ∙ reverse-append (take i script) (step ∷ []))

-- the step at a place of the script was made
pub reached_more : (script : List ReplayStep) (store : MemStore) (workspace : MemWorkspace) (i : ℕ) (step : ReplayStep) (old new : Stage) → i < length script → step ≡ get_or script i step
    → MakesWhole step old new → ReachedWhole store workspace (reverse (take i script)) old → ReachedWhole store workspace (reverse (take (i + 1) script)) new
reached_more script store workspace i step old new within is makes reached =
    subst (λ made. ReachedWhole store workspace made new) (made_more script i step within is) (reached_whole store workspace (reverse (take i script)) step old new makes reached)

-- ---- the end

owed : (script : List ReplayStep) (store : MemStore) (workspace : MemWorkspace) (made rest : List ReplayStep) (stage : Stage) (end : Result (List Answered) ReplayFault) → reverse made ++ rest ≡ script
    → (reached : Reached store workspace made stage) → IfOk end (IsEnded rest reached.commands)
    → IsReplay script store workspace (record { store = stage.store; workspace = stage.workspace; takes = stage.takes.items; end = end })
owed script store workspace made rest stage end all reached replies = record {
  made = made;
  rest = rest;
  in_order = all;
  commands = reached.commands;
  lead = reached.lead;
  takes = reached.takes;
  replies = replies;
  store_plan = (same_plans made (state_of store workspace []) (state_of stage.store stage.workspace reached.commands) reached.lead).0;
  workspace_plan = (same_plans made (state_of store workspace []) (state_of stage.store stage.workspace reached.commands) reached.lead).1;
  sound = λ runs lost. sound made (state_of store workspace []) (state_of stage.store stage.workspace reached.commands) runs lost refl reached.lead;
  sound_from_empty = λ empty. sound made (state_of store workspace []) (state_of stage.store stage.workspace reached.commands) [] [] refl reached.lead (stands_empty store.contents empty);
}

-- all steps were made
pub replay_whole : (script : List ReplayStep) (store : MemStore) (workspace : MemWorkspace) (i : ℕ) (stage : Stage) → length script ≤ i → ReachedWhole store workspace (reverse (take i script)) stage
    → IsReplay script store workspace (record { store = stage.store; workspace = stage.workspace; takes = stage.takes.items; end = Ok stage.replies.items })
replay_whole script store workspace i stage past (reached, whole) =
    owed script store workspace (reverse (take i script)) [] stage (Ok stage.replies.items) (append-nil (reverse (reverse (take i script))) ∙ reverse-reverse (take i script) ∙ take_all i script past) reached
    (record { all_made = refl; in_order = reached.replies; whole = whole })

broken_at : (script : List ReplayStep) (store : MemStore) (workspace : MemWorkspace) (i : ℕ) (stage : Stage) (fault : ReplayFault) → Reached store workspace (reverse (take i script)) stage
    → IsReplay script store workspace (record { store = stage.store; workspace = stage.workspace; takes = stage.takes.items; end = Err fault })
broken_at script store workspace i stage fault reached =
    owed script store workspace (reverse (take i script)) (drop i script) stage (Err fault) (ap (λ front. front ++ drop i script) (reverse-reverse (take i script)) ∙ take-append-drop i script) reached tt

-- the script ended at a step, which was made or not
pub replay_broken : (script : List ReplayStep) (store : MemStore) (workspace : MemWorkspace) (i : ℕ) (step : ReplayStep) (old new : Stage) (fault : ReplayFault) → i < length script → step ≡ get_or script i step
    → IsAsBefore old new ⊎ Makes step old new → Reached store workspace (reverse (take i script)) old
    → IsReplay script store workspace (record { store = new.store; workspace = new.workspace; takes = new.takes.items; end = Err fault })
replay_broken script store workspace i step old new fault within is (inl still) reached =
    broken_at script store workspace i new fault (reached_still store workspace (reverse (take i script)) old new still reached)
replay_broken script store workspace i step old new fault within is (inr makes) reached =
    broken_at script store workspace (i + 1) new fault
    (subst (λ made. Reached store workspace made new) (made_more script i step within is) (reached_next store workspace (reverse (take i script)) step old new makes reached))
