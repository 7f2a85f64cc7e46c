-- What an answer owes, from what was done for it.
use Rattle.std.proofs.Common.{◌≡◌, ◌≢◌, ℕ, ℤ, Bool, true, false, inl, inr, ◌⊎◌, List, [], ◌∷◌, ◌++◌, map, reverse, Option, Some, None, IsSome, Result, Ok, Err, IfOk, IfErr, OnOk, MatchOption, refl, sym, ap, subst, ◌∙◌}
use Rattle.std.specs.Str.{bytes_eq}
use Rattle.std.specs.Option.{is_none}
use Rattle.std.proofs.lemmas.Bool.{false≢true}
use Rattle.std.proofs.lemmas.Slice.Eq.{bytes_eq-Decides}
use Rattle.std.proofs.lemmas.List.{same_from_push, append-nil, map-append}
use Rattle.io_traits.specs.Causes.{Rose}
use Rattle.io_traits.specs.Files.{Files}
use Rattle.out_store.specs.declared.numbers.Numbers.{Numbers}
use Rattle.mill_top.specs.declared.build_fault.BuildFault.{BuildFault}
use Rattle.mill_top.specs.declared.build_fault.BuildFault.TheVariants as faults
use Rattle.mill_top.specs.declared.outcome.Outcome.{Outcome}
use Rattle.mill_top.specs.declared.recorded.Record.{Record}
use Rattle.mill_top.specs.declared.reply.Reply.{Reply}
use Rattle.mill_top.specs.declared.reply.Reply.TheVariants.{Value, NoTask, StoreFault, Memory}
use Rattle.mill_top.specs.declared.takes.FoundEntry.{FoundEntry}
use Rattle.mill_top.specs.declared.task_file.TaskFile.{TaskFile}
use Rattle.mill_top.specs.Graphs.{build_graph, named, task_in, refusal_of_build, plan, plan_in, task_name}
use Rattle.mill_top.specs.Loading.{IsUnloaded}
use Rattle.mill_top.specs.Replies.{build_reply, refusal_by, refusal}
use Rattle.mill_top.specs.Scratch.{scratch}
use Rattle.mill_top.specs.Takes.{Take, task_of, seen, given}
use Rattle.mill_top.specs.Leaving.{after_takes, MayLeave}
use Rattle.mill_top.specs.Answers.{IsUnlessMemory, IsEvaluation, AreTaken, IsValue, IsEvaluated, IsRefused, IsAnswerOfLoaded, IsAnswer}
use Rattle.mill_top.specs.Walks.{latest_value, IsWalked, IsStopped}
use Rattle.mill_top.proofs.PlanLaws.{task_is, plan-last}
use Rattle.mill_top.proofs.ScratchLaws.{absent-scratch, known-scratch}
use Rattle.mill_top.proofs.WalkLaws.{reverse-cons, whole_takes}

-- a record that is not refused has the graph and the task
pub accepted_by : (task : List ℕ) (fault : Option BuildFault) (outcome : Option Outcome) → refusal_by task fault outcome ≡ None → (fault ≡ None) × ((own : Outcome) × (outcome ≡ Some own))
accepted_by task (Some fault) outcome e = cc
accepted_by task None None e = cc
accepted_by task None (Some own) e = (refl, (own, refl))

-- ---- an answer, by whether the record is refused

by_evaluated : (inputs : Record) (task : List ℕ) (before now : ℕ) (numbers : Numbers) (old new : Option Files) (reply : Reply) (takes : List (List ℕ × FoundEntry)) (r : Option Reply) → r ≡ None
    → IsEvaluated inputs task before now numbers old new reply takes
    → MatchOption r (IsEvaluated inputs task before now numbers old new reply takes) (λ refused. IsRefused refused old new reply takes)
by_evaluated inputs task before now numbers old new reply takes r none h = rw none h

pub evaluated_answer : (inputs : Record) (task : List ℕ) (before now : ℕ) (numbers : Numbers) (old new : Option Files) (reply : Reply) (takes : List (List ℕ × FoundEntry)) → refusal inputs task ≡ None
    → IsEvaluated inputs task before now numbers old new reply takes → IsAnswerOfLoaded inputs task before now numbers old new reply takes
evaluated_answer inputs task before now numbers old new reply takes accepted h = by_evaluated inputs task before now numbers old new reply takes (refusal inputs task) accepted h

memory_evaluated : (inputs : Record) (task : List ℕ) (before now : ℕ) (numbers : Numbers) (content : Option Files) → IsEvaluated inputs task before now numbers content content Memory []
memory_evaluated inputs task before now numbers content = record {
  evaluated = inr refl;
  cause = λ e. cc;
  done = [];
  rest = plan inputs.files task;
  taken = record { all_seen = refl; in_order = refl; are_given = tt };
  value = λ value e. cc;
  left = refl;
}

by_memory : (inputs : Record) (task : List ℕ) (before now : ℕ) (numbers : Numbers) (content : Option Files) (r : Option Reply)
    → MatchOption r (IsEvaluated inputs task before now numbers content content Memory []) (λ refused. IsRefused refused content content Memory [])
by_memory inputs task before now numbers content None = memory_evaluated inputs task before now numbers content
by_memory inputs task before now numbers content (Some refused) = record { reply_is = inr refl; nothing_taken = refl; out = refl }

by_refused : (inputs : Record) (task : List ℕ) (before now : ℕ) (numbers : Numbers) (content : Option Files) (reply : Reply) (r : Option Reply) → r ≡ Some reply
    → MatchOption r (IsEvaluated inputs task before now numbers content content reply []) (λ refused. IsRefused refused content content reply [])
by_refused inputs task before now numbers content reply r is = rw is (record { reply_is = inl refl; nothing_taken = refl; out = refl })

-- nothing is taken where the record is refused, or memory was wanted before it was clear
pub nothing_answer : (inputs : Record) (task : List ℕ) (before now : ℕ) (numbers : Numbers) (content : Option Files) (reply : Reply) → (reply ≡ Memory) ⊎ (refusal inputs task ≡ Some reply)
    → IsAnswerOfLoaded inputs task before now numbers content content reply []
nothing_answer inputs task before now numbers content reply (inl wanted) =
    subst (λ r. IsAnswerOfLoaded inputs task before now numbers content content r []) (sym wanted) (by_memory inputs task before now numbers content (refusal inputs task))
nothing_answer inputs task before now numbers content reply (inr is) = by_refused inputs task before now numbers content reply (refusal inputs task) is

-- ---- an evaluation, from the walk along the plan

given_first : (take : Take) (earlier : List Take) → given (take ∷ earlier) take.task ≡ Some take.value
given_first take earlier = rw ((bytes_eq-Decides take.task take.task).1 refl) refl

last_value : (inputs : Record) (task : List ℕ) (file : TaskFile) (front : List TaskFile) (numbers : Numbers) (old new : Option Files) (takes : List (List ℕ × FoundEntry)) (done : List Take) (value : ℤ)
    → task ≡ task_name file → plan inputs.files task ≡ front ++ file ∷ []
    → AreTaken inputs (plan inputs.files task) numbers old takes done [] → new ≡ after_takes done old → Some value ≡ latest_value done → IsValue task old new done [] value
last_value inputs task file front numbers old new takes [] value name ends taken out last = cc
last_value inputs task file front numbers old new takes (take ∷ earlier) value name ends taken out last =
    let names : reverse (map task_of earlier) ++ take.task ∷ [] ≡ map task_name front ++ task_name file ∷ [] =
    sym (reverse-cons take.task (map task_of earlier)) ∙ sym (append-nil (reverse (map task_of (take ∷ earlier)))) ∙ taken.in_order ∙ ap (map task_name) ends ∙ map-append task_name front (file ∷ []) in
    let same : take.task ≡ task = (same_from_push (reverse (map task_of earlier)) (map task_name front) take.task (task_name file) names).1 ∙ sym name in
    record {
      whole = refl;
      is_given = subst (λ t. given (take ∷ earlier) t ≡ Some value) same (given_first take earlier ∙ sym last);
      out = out;
    }

value_is : (value own : ℤ) → Value own ≡ Value value → own ≡ value
value_is value own e = cc

pub walked_evaluated : (inputs : Record) (task : List ℕ) (file : TaskFile) (planned : List TaskFile) (before now : ℕ) (numbers numbers_now : Numbers) (old new : Option Files) (takes : List (List ℕ × FoundEntry)) (value : ℤ)
    → planned ≡ plan inputs.files task → refusal_of_build inputs.files ≡ None → task_in inputs.files task ≡ Some file
    → IsWalked inputs planned numbers numbers_now old new takes [] (Some value) → IsEvaluated inputs task before now numbers old new (Value value) takes
walked_evaluated inputs task file planned before now numbers numbers_now old new takes value is accepted known walked =
    let ends = plan-last inputs.files task file accepted known in
    let taken : AreTaken inputs (plan inputs.files task) numbers old takes walked.done [] = subst (λ p. AreTaken inputs p numbers old takes walked.done []) is walked.taken in
    record {
      evaluated = tt;
      cause = λ e. cc;
      done = walked.done;
      rest = [];
      taken = taken;
      value = λ v e. subst (IsValue task old new walked.done []) (value_is v value e)
          (last_value inputs task file ends.0 numbers old new takes walked.done value (task_is inputs.files task file known).0 ends.1 taken walked.out walked.value_is);
      left = subst (λ content. MayLeave walked.done old content) (sym walked.out) (whole_takes walked.done old);
    }

pub stopped_evaluated : (inputs : Record) (task : List ℕ) (planned : List TaskFile) (before now : ℕ) (numbers numbers_now : Numbers) (old new : Option Files) (reply : Reply) (takes : List (List ℕ × FoundEntry))
    → planned ≡ plan inputs.files task → IsEvaluation reply → (reply ≡ StoreFault → Rose before now) → ((value : ℤ) → reply ≢ Value value)
    → IsStopped inputs planned numbers numbers_now old new takes → IsEvaluated inputs task before now numbers old new reply takes
stopped_evaluated inputs task planned before now numbers numbers_now old new reply takes is evaluated cause no_value stopped = record {
  evaluated = evaluated;
  cause = cause;
  done = stopped.done;
  rest = stopped.rest;
  taken = subst (λ p. AreTaken inputs p numbers old takes stopped.done stopped.rest) is stopped.taken;
  value = λ value e. absurd (no_value value e);
  left = stopped.left;
}

abbrev is_empty : List (List ℕ) → Bool
is_empty [] = true
is_empty (x ∷ xs) = false

empty_push : (xs : List (List ℕ)) (x : List ℕ) → [] ≡ xs ++ x ∷ [] → ⊥
empty_push [] x e = let differ : true ≡ false = ap is_empty e in absurd (false≢true (sym differ))
empty_push (y ∷ xs) x e = let differ : true ≡ false = ap is_empty e in absurd (false≢true (sym differ))

none_taken : (done : List Take) (names : List (List ℕ)) (name : List ℕ) → None ≡ latest_value done → reverse (map task_of done) ++ [] ≡ names ++ name ∷ [] → ⊥
none_taken [] names name last e = empty_push names name e
none_taken (take ∷ earlier) names name last e = let differ : true ≡ false = ap is_none last in absurd (false≢true (sym differ))

-- a plan that is walked to its end has a value
pub walked_some : (inputs : Record) (task : List ℕ) (file : TaskFile) (planned : List TaskFile) (numbers numbers_now : Numbers) (old new : Option Files) (takes : List (List ℕ × FoundEntry))
    → planned ≡ plan inputs.files task → refusal_of_build inputs.files ≡ None → task_in inputs.files task ≡ Some file → IsWalked inputs planned numbers numbers_now old new takes [] None → ⊥
walked_some inputs task file planned numbers numbers_now old new takes is accepted known walked =
    let ends = plan-last inputs.files task file accepted known in
    none_taken walked.done (map task_name ends.0) (task_name file) walked.value_is (walked.taken.in_order ∙ ap (map task_name) (is ∙ ends.1) ∙ map-append task_name ends.0 (file ∷ []))

-- ---- what is chosen

build_refused_by : (task : List ℕ) (found : Option BuildFault) (fault : BuildFault) (outcome : Option Outcome) → found ≡ Some fault → refusal_by task found outcome ≡ Some (build_reply fault)
build_refused_by task found fault outcome is = rw is refl

pub build_refused : (inputs : Record) (task : List ℕ) (fault : BuildFault) → refusal_of_build inputs.files ≡ Some fault → refusal inputs task ≡ Some (build_reply fault)
build_refused inputs task fault is = build_refused_by task (refusal_of_build inputs.files) fault (scratch inputs task) is

chosen_by : (task : List ℕ) (found : Option BuildFault) (outcome : Option Outcome) (own : Outcome) → found ≡ None → outcome ≡ Some own → refusal_by task found outcome ≡ None
chosen_by task found outcome own none some = rw (none, some) refl

pub chosen : (inputs : Record) (task : List ℕ) (file : TaskFile) → refusal_of_build inputs.files ≡ None → task_in inputs.files task ≡ Some file → refusal inputs task ≡ None
chosen inputs task file accepted known =
    let own = known-scratch inputs task file accepted known in
    chosen_by task (refusal_of_build inputs.files) (scratch inputs task) own.0 accepted own.1

absent_by : (task : List ℕ) (found : Option BuildFault) (outcome : Option Outcome) → found ≡ None → outcome ≡ None → refusal_by task found outcome ≡ Some (NoTask task)
absent_by task found outcome none absent = rw (none, absent) refl

pub absent : (inputs : Record) (task : List ℕ) → refusal_of_build inputs.files ≡ None → task_in inputs.files task ≡ None → refusal inputs task ≡ Some (NoTask task)
absent inputs task accepted none = absent_by task (refusal_of_build inputs.files) (scratch inputs task) accepted (absent-scratch inputs task none)

file_by : (inputs : Record) (task : List ℕ) (found : Option TaskFile) (own : Outcome) → task_in inputs.files task ≡ found → scratch inputs task ≡ Some own → (file : TaskFile) × (task_in inputs.files task ≡ Some file)
file_by inputs task None own is some = let differ : true ≡ false = ap is_none (sym (absent-scratch inputs task is) ∙ some) in absurd (false≢true (sym differ))
file_by inputs task (Some file) own is some = (file, is)

-- a record that is not refused has a file of the task
pub accepted_file : (inputs : Record) (task : List ℕ) → refusal inputs task ≡ None → (refusal_of_build inputs.files ≡ None) × ((file : TaskFile) × (task_in inputs.files task ≡ Some file))
accepted_file inputs task e =
    let both = accepted_by task (refusal_of_build inputs.files) (scratch inputs task) e in
    (both.0, file_by inputs task (task_in inputs.files task) both.1.0 refl both.1.1)

pub chosen_plan : {T : Type 0} (items : T → List TaskFile) (inputs : Record) (task : List ℕ) (graph : List TaskFile) (result : Result T Reply) → refusal_of_build inputs.files ≡ None → graph ≡ build_graph inputs.files
    → OnOk result (IsSome (named graph task)) → IfOk result (λ planned. items planned ≡ plan_in graph task)
    → IfOk result (λ planned. (refusal inputs task ≡ None) × (items planned ≡ plan inputs.files task))
chosen_plan items inputs task graph (Err reply) accepted is known planned = tt
chosen_plan items inputs task graph (Ok own) accepted is known planned =
    let file = some_file (named graph task) known in
    (chosen inputs task file.0 accepted (ap (λ g. named g task) (sym is) ∙ file.1), planned ∙ ap (λ g. plan_in g task) is) where
      some_file : (found : Option TaskFile) → IsSome found → (file : TaskFile) × (found ≡ Some file)
      some_file None some = absurd (false≢true some)
      some_file (Some file) some = (file, refl)

pub unplanned : {T : Type 0} (inputs : Record) (task : List ℕ) (graph : List TaskFile) (result : Result T Reply) → refusal_of_build inputs.files ≡ None → graph ≡ build_graph inputs.files
    → IfErr result (λ reply. (reply ≡ Memory) ⊎ ((named graph task ≡ None) × (reply ≡ NoTask task)))
    → IfErr result (λ reply. (reply ≡ Memory) ⊎ (refusal inputs task ≡ Some reply))
unplanned inputs task graph (Ok own) accepted is why = tt
unplanned inputs task graph (Err reply) accepted is (inl wanted) = inl wanted
unplanned inputs task graph (Err reply) accepted is (inr (none, same)) =
    inr (absent inputs task accepted (ap (λ g. named g task) (sym is) ∙ none) ∙ ap (λ r. Some r) (sym same))

pub refused_build : (inputs : Record) (task : List ℕ) (fault : BuildFault) (reply : Reply) → reply ≡ build_reply fault → (refusal_of_build inputs.files ≡ Some fault) ⊎ (fault ≡ faults.Memory)
    → (reply ≡ Memory) ⊎ (refusal inputs task ≡ Some reply)
refused_build inputs task fault reply same (inl is) = inr (build_refused inputs task fault is ∙ ap (λ r. Some r) (sym same))
refused_build inputs task fault reply same (inr wanted) = inl (same ∙ ap build_reply wanted)

-- ---- class files that aren't loaded

pub unloaded_answer : (inputs : Record) (task : List ℕ) (before now : ℕ) (numbers : Numbers) (content : Option Files) (fault : BuildFault) (reply : Reply) → reply ≡ build_reply fault
    → ((own : BuildFault) × IsUnloaded inputs.files own × ((fault ≡ own) ⊎ (fault ≡ faults.Memory))) → IsAnswer inputs task before now numbers content content reply []
unloaded_answer inputs task before now numbers content fault reply same (own, unloaded, inl is) =
    inl (own, unloaded, record { reply_is = inl (same ∙ ap build_reply is); nothing_taken = refl; out = refl })
unloaded_answer inputs task before now numbers content fault reply same (own, unloaded, inr wanted) =
    inl (own, unloaded, record { reply_is = inr (same ∙ ap build_reply wanted); nothing_taken = refl; out = refl })
