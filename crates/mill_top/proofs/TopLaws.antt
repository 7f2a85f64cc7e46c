-- What the top call owes, from what was done in it.
use Rattle.std.proofs.Common.{◌≡◌, ℕ, ℤ, ◌≤◌, ◌⊎◌, inl, inr, List, [], ◌∷◌, ◌++◌, flat_map, Option, Some, None, IfSome, IfNone, IsNone, MatchOption, refl, sym, ap, subst, ◌∙◌, arith}
use Rattle.std.specs.Option.{option_map}
use Rattle.std.proofs.lemmas.List.{append-nil}
use Rattle.io_traits.specs.Causes.{Rose}
use Rattle.io_traits.specs.Files.{Files}
use Rattle.out_store.specs.Opening.{IsOpened}
use Rattle.out_store.specs.Standing.{Row, Stands}
use Rattle.out_store.specs.Standing as store
use Rattle.out_store.specs.declared.numbers.Numbers.{Numbers}
use Rattle.out_store.proofs.OpeningStands.{opening_stands}
use Rattle.mill_top.specs.declared.build_fault.BuildFault.{BuildFault}
use Rattle.mill_top.specs.declared.outcome.Outcome.{Outcome}
use Rattle.mill_top.specs.declared.outcome.Outcome.TheVariants.{Returns}
use Rattle.mill_top.specs.declared.recorded.Record.{Record}
use Rattle.mill_top.specs.declared.reply.Reply.{Reply}
use Rattle.mill_top.specs.declared.reply.Reply.TheVariants.{Value, WordsNotBuilt, Build, NoTask, StoreFault, WorkspaceFault, Memory}
use Rattle.mill_top.specs.declared.takes.FoundEntry.{FoundEntry}
use Rattle.mill_top.specs.Words.{asked}
use Rattle.mill_top.specs.Graphs.{refusal_of_build}
use Rattle.mill_top.specs.Inputs.{Run, texts, Clean}
use Rattle.mill_top.specs.Replies.{refusal_by, refusal, reply_by, IsWordsReply}
use Rattle.mill_top.specs.Scratch.{scratch, value_of}
use Rattle.mill_top.specs.Standing.{rows_of, StandsIn}
use Rattle.mill_top.specs.Takes.{runs_of}
use Rattle.mill_top.specs.Answers.{IsUnlessMemory, AreRefused, IsUnopened, IsUnfound, IsOpenedAlone, IsUnread, IsRecordOf, IsEvaluation, IsEvaluated, IsRefused, IsAnswer, IsAnswerTo, runs_in, planned_runs, all_texts, IsFromScratch}
use Rattle.mill_top.proofs.AnswerLaws.{accepted_by}
use Rattle.mill_top.proofs.PlannedLaws.{evaluated_scratch}
use Rattle.mill_top.proofs.RowLaws.{opened_stands}
use Rattle.mill_top.proofs.ValueLaws.{AreScratch, given_scratch}

-- ---- a reply stays an answer where memory is wanted for its text in the end

memory_instead : (inputs : Record) (task : List ℕ) (before now : ℕ) (numbers : Numbers) (old new : Option Files) (reply : Reply) (takes : List (List ℕ × FoundEntry)) (r : Option Reply)
    → MatchOption r (IsEvaluated inputs task before now numbers old new reply takes) (λ refused. IsRefused refused old new reply takes)
    → MatchOption r (IsEvaluated inputs task before now numbers old new Memory takes) (λ refused. IsRefused refused old new Memory takes)
memory_instead inputs task before now numbers old new reply takes None h = record {
  evaluated = inr refl;
  cause = λ e. cc;
  done = h.done;
  rest = h.rest;
  taken = h.taken;
  value = λ value e. cc;
  left = h.left;
}
memory_instead inputs task before now numbers old new reply takes (Some refused) h = record { reply_is = inr refl; nothing_taken = h.nothing_taken; out = h.out }

memory_answer : (inputs : Record) (task : List ℕ) (before now : ℕ) (numbers : Numbers) (old new : Option Files) (reply : Reply) (takes : List (List ℕ × FoundEntry))
    → IsAnswer inputs task before now numbers old new reply takes → IsAnswer inputs task before now numbers old new Memory takes
memory_answer inputs task before now numbers old new reply takes (inl (fault, unloaded, h)) = inl (fault, unloaded, record { reply_is = inr refl; nothing_taken = h.nothing_taken; out = h.out })
memory_answer inputs task before now numbers old new reply takes (inr (loaded, h)) = inr (loaded, memory_instead inputs task before now numbers old new reply takes (refusal inputs task) h)

shown_answer : (inputs : Record) (task : List ℕ) (before now : ℕ) (numbers : Numbers) (old new : Option Files) (reply own : Reply) (takes : List (List ℕ × FoundEntry))
    → IsUnlessMemory reply own → IsAnswer inputs task before now numbers old new own takes → IsAnswer inputs task before now numbers old new reply takes
shown_answer inputs task before now numbers old new reply own takes (inl same) h = subst (λ r. IsAnswer inputs task before now numbers old new r takes) (sym same) h
shown_answer inputs task before now numbers old new reply own takes (inr wanted) h =
    subst (λ r. IsAnswer inputs task before now numbers old new r takes) (sym wanted) (memory_answer inputs task before now numbers old new own takes h)

pub shown_answer_to : (words : List (List ℕ)) (read : Option Record) (before now : ℕ) (old new : Option Files) (reply own : Reply) (takes : List (List ℕ × FoundEntry))
    → IsUnlessMemory reply own → IfSome read (λ inputs. IsAnswerTo words inputs before now old new own takes) → IfSome read (λ inputs. IsAnswerTo words inputs before now old new reply takes)
shown_answer_to words None before now old new reply own takes is h = tt
shown_answer_to words (Some inputs) before now old new reply own takes is h = record {
  task = h.task;
  asks = h.asks;
  numbers = h.numbers;
  opened = h.opened;
  opening = h.opening;
  answer = shown_answer inputs h.task before now h.numbers h.opened new reply own takes is h.answer;
}

-- ---- an answer over what the opening left, from the count of faults before the opening

still_rose : (before mid now : ℕ) → before ≤ mid → Rose mid now → Rose before now
still_rose before mid now later rose = omega arith

loaded_before : (inputs : Record) (task : List ℕ) (before mid now : ℕ) (numbers : Numbers) (old new : Option Files) (reply : Reply) (takes : List (List ℕ × FoundEntry)) (r : Option Reply) → before ≤ mid
    → MatchOption r (IsEvaluated inputs task mid now numbers old new reply takes) (λ refused. IsRefused refused old new reply takes)
    → MatchOption r (IsEvaluated inputs task before now numbers old new reply takes) (λ refused. IsRefused refused old new reply takes)
loaded_before inputs task before mid now numbers old new reply takes None later h = record {
  evaluated = h.evaluated;
  cause = λ fault. still_rose before mid now later (h.cause fault);
  done = h.done;
  rest = h.rest;
  taken = h.taken;
  value = h.value;
  left = h.left;
}
loaded_before inputs task before mid now numbers old new reply takes (Some refused) later h = h

answer_before : (inputs : Record) (task : List ℕ) (before mid now : ℕ) (numbers : Numbers) (old new : Option Files) (reply : Reply) (takes : List (List ℕ × FoundEntry)) → before ≤ mid
    → IsAnswer inputs task mid now numbers old new reply takes → IsAnswer inputs task before now numbers old new reply takes
answer_before inputs task before mid now numbers old new reply takes later (inl unloaded) = inl unloaded
answer_before inputs task before mid now numbers old new reply takes later (inr (loaded, h)) =
    inr (loaded, loaded_before inputs task before mid now numbers old new reply takes (refusal inputs task) later h)

pub opened_answer : (words : List (List ℕ)) (task : List ℕ) (read : Option Record) (before mid now : ℕ) (numbers : Numbers) (old opened new : Option Files) (reply : Reply) (takes : List (List ℕ × FoundEntry))
    → asked words ≡ Some task → IsOpened old opened numbers → before ≤ mid
    → IfSome read (λ inputs. IsAnswer inputs task mid now numbers opened new reply takes) → IfSome read (λ inputs. IsAnswerTo words inputs before now old new reply takes)
opened_answer words task None before mid now numbers old opened new reply takes asks opening later h = tt
opened_answer words task (Some inputs) before mid now numbers old opened new reply takes asks opening later h = record {
  task = task;
  asks = asks;
  numbers = numbers;
  opened = opened;
  opening = opening;
  answer = answer_before inputs task before mid now numbers opened new reply takes later h;
}

chained : (reply own expected : Reply) → IsUnlessMemory reply own → IsUnlessMemory own expected → IsUnlessMemory reply expected
chained reply own expected (inl same) (inl is) = inl (same ∙ is)
chained reply own expected (inl same) (inr wanted) = inr (same ∙ wanted)
chained reply own expected (inr wanted) is = inr wanted

over_none : (P Q : Type 0) (o : Option (List ℕ)) → (P → Q) → IfNone o P → IfNone o Q
over_none P Q None f p = f p
over_none P Q (Some task) f p = tt

over_some : (P Q : Type 0) (o : Option (List ℕ)) → (P → Q) → IfSome o (λ task. P) → IfSome o (λ task. Q)
over_some P Q None f p = tt
over_some P Q (Some task) f p = f p

store_cause : (P : Type 0) (reply own : Reply) → IsUnlessMemory reply own → (own ≡ StoreFault → P) → reply ≡ StoreFault → P
store_cause P reply own (inl same) cause e = cause (sym same ∙ e)
store_cause P reply own (inr wanted) cause e = let differs : Memory ≡ StoreFault = sym wanted ∙ e in cc

workspace_cause : (P : Type 0) (reply own : Reply) → IsUnlessMemory reply own → (own ≡ WorkspaceFault → P) → reply ≡ WorkspaceFault → P
workspace_cause P reply own (inl same) cause e = cause (sym same ∙ e)
workspace_cause P reply own (inr wanted) cause e = let differs : Memory ≡ WorkspaceFault = sym wanted ∙ e in cc

pub shown_unread : (words : List (List ℕ)) (before now workspace_before workspace_now : ℕ) (old new : Option Files) (reply own : Reply) (takes : List (List ℕ × FoundEntry))
    → IsUnlessMemory reply own → IsUnread words before now workspace_before workspace_now old new own takes → IsUnread words before now workspace_before workspace_now old new reply takes
shown_unread words before now w v old new reply own takes is h = record {
  nothing_taken = h.nothing_taken;
  refused = over_none (AreRefused before now w v old new own) (AreRefused before now w v old new reply) (asked words) refused h.refused;
  failed = over_some (IsUnopened before now w v old new own ⊎ IsOpenedAlone w v old new own) (IsUnopened before now w v old new reply ⊎ IsOpenedAlone w v old new reply) (asked words) failed h.failed;
} where
  refused : AreRefused before now w v old new own → AreRefused before now w v old new reply
  refused r = record { reply_is = chained reply own WordsNotBuilt is r.reply_is; unopened = r.unopened; unread = r.unread; out = r.out }

  failed : IsUnopened before now w v old new own ⊎ IsOpenedAlone w v old new own → IsUnopened before now w v old new reply ⊎ IsOpenedAlone w v old new reply
  failed (inl r) = inl (record { reply_is = chained reply own StoreFault is r.reply_is; cause = store_cause (Rose before now) reply own is r.cause; unread = r.unread; out = r.out })
  failed (inr (numbers, opened, opening, r)) = inr (
    numbers,
    opened,
    opening,
    record { reply_is = chained reply own WorkspaceFault is r.reply_is; cause = workspace_cause (Rose w v) reply own is r.cause; out = r.out },
  )

-- ---- the reply is that from scratch

refused_reply : (task : List ℕ) (fault : Option BuildFault) (outcome : Option Outcome) (refused : Reply) → refusal_by task fault outcome ≡ Some refused → reply_by task fault outcome ≡ refused
refused_reply task (Some fault) outcome refused e = cc
refused_reply task None None refused e = cc
refused_reply task None (Some own) refused e = cc

valued_reply : (task : List ℕ) (outcome : Option Outcome) (value : ℤ) → option_map value_of outcome ≡ Some value → reply_by task None outcome ≡ Value value
valued_reply task None value e = cc
valued_reply task (Some (Returns own log)) value e = let same : own ≡ value = cc in ap (λ v. Value v) same

evaluated_reply : (reply scratch_reply : Reply) → IsEvaluation reply → ((value : ℤ) → reply ≡ Value value → scratch_reply ≡ Value value) → (reply ≡ scratch_reply) ⊎ IsUnlessMemory reply StoreFault
evaluated_reply (Value value) scratch_reply evaluated is = inl (sym (is value refl))
evaluated_reply WordsNotBuilt scratch_reply evaluated is = inr evaluated
evaluated_reply (Build fault) scratch_reply evaluated is = inr evaluated
evaluated_reply (NoTask task) scratch_reply evaluated is = inr evaluated
evaluated_reply StoreFault scratch_reply evaluated is = inr evaluated
evaluated_reply WorkspaceFault scratch_reply evaluated is = inr evaluated
evaluated_reply Memory scratch_reply evaluated is = inr evaluated

-- what is known of a record, its task and a store that stands for runs
record IsCase (files : Files) (runs : List Run) (lost : List (List ℕ)) (inputs : Record) (task : List ℕ) : Type 0 where
  stands : Stands files (rows_of runs) lost
  asks : asked inputs.words ≡ Some task
  clean : Clean (all_texts inputs runs)

case_clean : (files : Files) (runs : List Run) (lost : List (List ℕ)) (inputs : Record) (task : List ℕ) → IsCase files runs lost inputs task → Clean (flat_map texts (planned_runs inputs (Some task) ++ runs))
case_clean files runs lost inputs task case = subst (λ asks. Clean (flat_map texts (planned_runs inputs asks ++ runs))) case.asks case.clean

case_scratch : (files : Files) (runs : List Run) (lost : List (List ℕ)) (inputs : Record) (task : List ℕ) (before now : ℕ) (numbers : Numbers) (new : Option Files) (reply : Reply) (takes : List (List ℕ × FoundEntry))
    → IsCase files runs lost inputs task → refusal inputs task ≡ None → (h : IsEvaluated inputs task before now numbers (Some files) new reply takes) → AreScratch inputs h.done
case_scratch files runs lost inputs task before now numbers new reply takes case accepted h =
    evaluated_scratch files runs lost inputs task numbers h.done h.rest (accepted_by task (refusal_of_build inputs.files) (scratch inputs task) accepted).0 case.stands
    (case_clean files runs lost inputs task case) h.taken.in_order h.taken.are_given

reply_by_case : (files : Files) (runs : List Run) (lost : List (List ℕ)) (inputs : Record) (task : List ℕ) (before now : ℕ) (numbers : Numbers) (new : Option Files) (reply : Reply) (takes : List (List ℕ × FoundEntry)) (r : Option Reply)
    → IsCase files runs lost inputs task → refusal inputs task ≡ r
    → MatchOption r (IsEvaluated inputs task before now numbers (Some files) new reply takes) (λ refused. IsRefused refused (Some files) new reply takes)
    → (reply ≡ reply_by task (refusal_of_build inputs.files) (scratch inputs task)) ⊎ IsUnlessMemory reply StoreFault
reply_by_case files runs lost inputs task before now numbers new reply takes (Some refused) case is h =
    elim h.reply_is [
      | inl same ↦ inl (same ∙ sym (refused_reply task (refusal_of_build inputs.files) (scratch inputs task) refused is))
      | inr wanted ↦ inr (inr wanted)
    ]
reply_by_case files runs lost inputs task before now numbers new reply takes None case is h =
    let accepted = (accepted_by task (refusal_of_build inputs.files) (scratch inputs task) is).0 in
    let scratches = case_scratch files runs lost inputs task before now numbers new reply takes case is h in
    evaluated_reply reply (reply_by task (refusal_of_build inputs.files) (scratch inputs task)) h.evaluated
    (λ value own.
    ap (λ fault. reply_by task fault (scratch inputs task)) accepted
    ∙ valued_reply task (scratch inputs task) value (given_scratch inputs h.done task value scratches (h.value value own).is_given))

from_scratch : (files : Files) (runs : List Run) (lost : List (List ℕ)) (inputs : Record) (task : List ℕ) (before now : ℕ) (numbers : Numbers) (new : Option Files) (reply : Reply) (takes : List (List ℕ × FoundEntry))
    → IsCase files runs lost inputs task → IsAnswer inputs task before now numbers (Some files) new reply takes → IsFromScratch inputs reply
from_scratch files runs lost inputs task before now numbers new reply takes case (inl (fault, unloaded, h)) =
    elim h.reply_is [
      | inl same ↦ inl (subst (λ asks. IsWordsReply inputs asks reply) (sym case.asks) (inl (fault, unloaded, same)))
      | inr wanted ↦ inr (inr wanted)
    ]
from_scratch files runs lost inputs task before now numbers new reply takes case (inr (loaded, h)) =
    elim (reply_by_case files runs lost inputs task before now numbers new reply takes (refusal inputs task) case refl h) [
      | inl is ↦ inl (subst (λ asks. IsWordsReply inputs asks reply) (sym case.asks) (inr (loaded, is)))
      | inr other ↦ inr other
    ]

from_scratch_opened : (opened : Option Files) (runs : List Run) (lost : List (List ℕ)) (inputs : Record) (task : List ℕ) (before now : ℕ) (numbers : Numbers) (new : Option Files) (reply : Reply) (takes : List (List ℕ × FoundEntry))
    → StandsIn opened runs lost → asked inputs.words ≡ Some task → Clean (all_texts inputs runs) → IsAnswer inputs task before now numbers opened new reply takes → IsFromScratch inputs reply
from_scratch_opened None runs lost inputs task before now numbers new reply takes stands asks clean h = absurd stands
from_scratch_opened (Some files) runs lost inputs task before now numbers new reply takes stands asks clean h =
    from_scratch files runs lost inputs task before now numbers new reply takes (record { stands = stands; asks = asks; clean = clean }) h

pub from_scratch_in : (words : List (List ℕ)) (environment : List (List ℕ × List ℕ)) (moment : ℕ) (workspace : Option Files) (read : Option Record) (before now : ℕ) (old new : Option Files) (reply : Reply) (takes : List (List ℕ × FoundEntry)) (runs : List Run) (lost : List (List ℕ))
    → IfSome read (IsRecordOf words environment moment workspace) → IfSome read (λ inputs. IsAnswerTo words inputs before now old new reply takes)
    → StandsIn old runs lost → IfSome read (λ inputs. Clean (all_texts inputs runs) → IsFromScratch inputs reply)
from_scratch_in words environment moment workspace None before now old new reply takes runs lost of answer stands = tt
from_scratch_in words environment moment workspace (Some inputs) before now old new reply takes runs lost of h stands = λ clean.
    from_scratch_opened h.opened runs lost inputs h.task before now h.numbers new reply takes (opened_stands old h.opened h.numbers (rows_of runs) lost h.opening stands) (ap asked of.same_words ∙ h.asks) clean h.answer

-- ---- the store stands for the runs and those of the command

without_record : (asks : Option (List ℕ)) (before now w v : ℕ) (old new : Option Files) (reply : Reply) (rows : List Row) (lost : List (List ℕ))
    → IfNone asks (AreRefused before now w v old new reply) → IfSome asks (λ task. IsUnopened before now w v old new reply ⊎ IsOpenedAlone w v old new reply)
    → store.StandsIn old rows lost → store.StandsIn new rows lost
without_record None before now w v old new reply rows lost refused failed stands = subst (λ c. store.StandsIn c rows lost) (sym refused.out) stands
without_record (Some task) before now w v old new reply rows lost refused (inl unopened) stands = opening_stands old new rows lost unopened.out stands
without_record (Some task) before now w v old new reply rows lost refused (inr (numbers, opened, opening, failed)) stands =
    subst (λ c. store.StandsIn c rows lost) (sym failed.out) (opened_stands old opened numbers rows lost opening stands)

pub stands_in : (words : List (List ℕ)) (read : Option Record) (before now w v : ℕ) (old new : Option Files) (reply : Reply) (takes : List (List ℕ × FoundEntry)) (runs : List Run) (lost : List (List ℕ))
    → (IsNone read → IsUnread words before now w v old new reply takes)
    → (StandsIn old runs lost → IfSome read (λ inputs. Clean (all_texts inputs runs) → StandsIn new (runs ++ runs_of inputs takes) lost))
    → StandsIn old runs lost → IfSome read (λ inputs. Clean (all_texts inputs runs)) → StandsIn new (runs ++ runs_in read takes) lost
stands_in words None before now w v old new reply takes runs lost unread read_stands stands clean =
    let h = unread refl in
    subst (λ rs. StandsIn new rs lost) (sym (append-nil runs)) (without_record (asked words) before now w v old new reply (rows_of runs) lost h.refused h.failed stands)
stands_in words (Some inputs) before now w v old new reply takes runs lost unread read_stands stands clean = read_stands stands clean
