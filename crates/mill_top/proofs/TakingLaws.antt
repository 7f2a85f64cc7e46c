-- What taking a task owes, from what was done for it.
use Rattle.std.proofs.Common.{◌≡◌, ◌≢◌, ℕ, ℤ, inl, inr, List, [], ◌∷◌, ◌++◌, Option, Some, None, Result, Ok, Err, IsErr, IfSome, IfOk, OnOk, OnErr, refl, sym, ap, subst, ◌∙◌}
use Rattle.std.proofs.lemmas.Bool.{false≢true}
use Rattle.io_traits.specs.Files.{Files}
use Rattle.value_text.specs.Short.{as_short, int}
use Rattle.out_entry.specs.declared.entry.Entry.{Entry}
use Rattle.out_store.specs.Changes.{puts_in, LeftByPuts}
use Rattle.out_store.specs.Generations.{Reads}
use Rattle.out_store.specs.Numbers.{IsNext, Takes, KnowsIn}
use Rattle.out_store.specs.Publishing.{puts_of, LeftByPublish}
use Rattle.out_store.specs.Standing.{Row, StandsIn, row_of}
use Rattle.out_store.specs.declared.finished.Finished.{Finished}
use Rattle.out_store.specs.declared.fault.OutFault.{OutFault}
use Rattle.out_store.specs.declared.numbers.Numbers.{Numbers}
use Rattle.out_store.proofs.ChangeLaws.{not_begun}
use Rattle.out_store.proofs.PublishStands.{more_in}
use Rattle.mill_top.specs.declared.outcome.Outcome.{Outcome}
use Rattle.mill_top.specs.declared.outcome.Outcome.TheVariants.{Returns}
use Rattle.mill_top.specs.declared.takes.FoundEntry.{FoundEntry}
use Rattle.mill_top.specs.declared.takes.FoundEntry.TheVariants.{Missing, Other, Same}
use Rattle.mill_top.specs.Leaving.{finished_by, finished_of, after, MayLeaveAfter}
use Rattle.mill_top.specs.Takes.{Why, IsNew, Take, seen, IsGivenBy, IsPutUnder, IsTakeOf}
use Rattle.mill_top.specs.Walks.{OthersUse, LeavesStanding, IsPut, row_put, IsUntaken, IsEnd, IsTaken, IsStep, HasNext}
use Rattle.mill_top.proofs.EntryLaws.{same_why, same_given}
use Rattle.mill_top.proofs.NumberLaws.{if_any, takes_others}

-- ---- a run

new_given : (content : Option Files) (task : List ℕ) (found : FoundEntry) (value : ℤ) → IsNew found → IsGivenBy content task found (Returns value []) value
new_given content task Missing value new = ([], refl)
new_given content task (Other d) value new = ([], refl)
new_given content task (Same d) value new = absurd new

new_under : (numbers : Numbers) (content : Option Files) (task : List ℕ) (found : FoundEntry) (number : ℕ) → IsNew found → IfSome content (λ files. IsNext numbers task number) → IsPutUnder numbers content task found number
new_under numbers content task Missing number new next = next
new_under numbers content task (Other d) number new next = next
new_under numbers content task (Same d) number new next = absurd new

new_after : (found : FoundEntry) (take : Take) (old : Option Files) → IsNew found → puts_in (puts_of (finished_of take) take.generation) old ≡ after found take old
new_after Missing take old new = refl
new_after (Other d) take old new = refl
new_after (Same d) take old new = absurd new

new_left : (found : FoundEntry) (take : Take) (old new : Option Files) → IsNew found → LeftByPuts (puts_of (finished_of take) take.generation) old new → MayLeaveAfter found take old new
new_left Missing take old new is_new left = left
new_left (Other d) take old new is_new left = left
new_left (Same d) take old new is_new left = absurd is_new

new_rows : (found : FoundEntry) (take : Take) → IsNew found → row_of (finished_of take) ∷ [] ≡ row_put found take
new_rows Missing take new = refl
new_rows (Other d) take new = refl
new_rows (Same d) take new = absurd new

-- a run is a take under this number
run_taken : (task input : List ℕ) (value : ℤ) (found : FoundEntry) (number : ℕ) (numbers numbers_now : Numbers) (old new : Option Files) (result : Result ℤ OutFault) (takes takes_now : List (List ℕ × FoundEntry))
    → IsNew found → IfSome old (λ files. Why files task input found) → IfSome old (λ files. IsNext numbers task number) → takes_now ≡ takes ++ (task, found) ∷ []
    → IsEnd (record { task = task; input = input; found = found; value = value; generation = number }) old new result
    → OthersUse task numbers numbers_now → LeavesStanding numbers numbers_now old new (row_of (finished_by task input (Returns value [])) ∷ [])
    → IsStep task input (Returns value []) numbers numbers_now old new result takes takes_now
run_taken task input value found number numbers numbers_now old new result takes takes_now is_new why next more end others rows =
    let take : Take = record { task = task; input = input; found = found; value = value; generation = number } in
    inr (record {
      take = take;
      is_take = record {
        task_is = refl;
        input_is = refl;
        why = why;
        value = new_given old task found value is_new;
        generation = new_under numbers old task found number is_new next;
      };
      one_more = more;
      end = end;
      others = others;
      rows = subst (λ own. LeavesStanding numbers numbers_now old new own) (new_rows found take is_new) rows;
    })

put_step : (task input : List ℕ) (value : ℤ) (found : FoundEntry) (number : ℕ) (numbers numbers_now : Numbers) (old new : Option Files) (takes takes_now : List (List ℕ × FoundEntry))
    → IsNew found → IfSome old (λ files. Why files task input found) → takes_now ≡ takes ++ (task, found) ∷ []
    → IsPut (finished_by task input (Returns value [])) numbers numbers_now old new number
    → LeavesStanding numbers numbers_now old new (row_of (finished_by task input (Returns value [])) ∷ [])
    → IsStep task input (Returns value []) numbers numbers_now old new (Ok value) takes takes_now
put_step task input value found number numbers numbers_now old new takes takes_now is_new why more put rows =
    let take : Take = record { task = task; input = input; found = found; value = value; generation = number } in
    run_taken task input value found number numbers numbers_now old new (Ok value) takes takes_now is_new why (if_any old _ put.next) more
    (refl, put.out ∙ new_after found take old is_new) (takes_others numbers numbers_now task number put.taken) rows

pub run_step : (task input copy : List ℕ) (value : ℤ) (outcome : Outcome) (found : FoundEntry) (number : ℕ) (numbers numbers_now : Numbers) (old new : Option Files) (takes takes_now : List (List ℕ × FoundEntry))
    → IsNew found → IfSome old (λ files. Why files task input found) → outcome ≡ Returns value [] → copy ≡ task → takes_now ≡ takes ++ (copy, found) ∷ []
    → IsPut (finished_by task input outcome) numbers numbers_now old new number
    → LeavesStanding numbers numbers_now old new (row_of (finished_by task input outcome) ∷ [])
    → IsStep task input (Returns value []) numbers numbers_now old new (Ok value) takes takes_now
run_step task input copy value outcome found number numbers numbers_now old new takes takes_now is_new why is same more put rows =
    put_step task input value found number numbers numbers_now old new takes takes_now is_new why (more ∙ ap (λ name. takes ++ (name, found) ∷ []) same)
    (subst (λ (o : Outcome). IsPut (finished_by task input o) numbers numbers_now old new number) is put)
    (subst (λ (o : Outcome). LeavesStanding numbers numbers_now old new (row_of (finished_by task input o) ∷ [])) is rows)

-- a number that is free, where the store tells its content
some_next : (numbers : Numbers) (content : Option Files) (task : List ℕ) → HasNext numbers content task → (number : ℕ) × IfSome content (λ files. IsNext numbers task number)
some_next numbers None task next = (0, tt)
some_next numbers (Some files) task next = next

refused_step : (task input : List ℕ) (value : ℤ) (found : FoundEntry) (numbers numbers_now : Numbers) (old new : Option Files) (refused : OutFault) (takes takes_now : List (List ℕ × FoundEntry))
    → IsNew found → IfSome old (λ files. Why files task input found) → HasNext numbers old task → takes_now ≡ takes ++ (task, found) ∷ []
    → LeftByPublish (finished_by task input (Returns value [])) numbers numbers_now old new
    → LeavesStanding numbers numbers_now old new (row_of (finished_by task input (Returns value [])) ∷ [])
    → IsStep task input (Returns value []) numbers numbers_now old new (Err refused) takes takes_now
refused_step task input value found numbers numbers_now old new refused takes takes_now is_new why next more (inl (same, is)) rows =
    let own = some_next numbers old task next in
    let take : Take = record { task = task; input = input; found = found; value = value; generation = own.0 } in
    run_taken task input value found own.0 numbers numbers_now old new (Err refused) takes takes_now is_new why own.1 more
    (new_left found take old new is_new (subst (λ (c : Option Files). LeftByPuts (puts_of (finished_of take) own.0) old c) (sym is) (not_begun (puts_of (finished_of take) own.0) old)))
    (λ t n other. same t n) rows
refused_step task input value found numbers numbers_now old new refused takes takes_now is_new why next more (inr (number, is_next, taken, left)) rows =
    let take : Take = record { task = task; input = input; found = found; value = value; generation = number } in
    run_taken task input value found number numbers numbers_now old new (Err refused) takes takes_now is_new why (if_any old _ is_next) more
    (new_left found take old new is_new left)
    (takes_others numbers numbers_now task number taken) rows

pub run_refused : (task input copy : List ℕ) (value : ℤ) (outcome : Outcome) (found : FoundEntry) (numbers numbers_now : Numbers) (old new : Option Files) (result : Result ℤ OutFault) (takes takes_now : List (List ℕ × FoundEntry))
    → IsErr result → IsNew found → IfSome old (λ files. Why files task input found) → HasNext numbers old task → outcome ≡ Returns value [] → copy ≡ task → takes_now ≡ takes ++ (copy, found) ∷ []
    → LeftByPublish (finished_by task input outcome) numbers numbers_now old new
    → LeavesStanding numbers numbers_now old new (row_of (finished_by task input outcome) ∷ [])
    → IsStep task input (Returns value []) numbers numbers_now old new result takes takes_now
run_refused task input copy value outcome found numbers numbers_now old new (Ok own) takes takes_now stopped is_new why next is same more left rows = absurd (false≢true stopped)
run_refused task input copy value outcome found numbers numbers_now old new (Err refused) takes takes_now stopped is_new why next is same more left rows =
    refused_step task input value found numbers numbers_now old new refused takes takes_now is_new why next (more ∙ ap (λ name. takes ++ (name, found) ∷ []) same)
    (subst (λ (o : Outcome). LeftByPublish (finished_by task input o) numbers numbers_now old new) is left)
    (subst (λ (o : Outcome). LeavesStanding numbers numbers_now old new (row_of (finished_by task input o) ∷ [])) is rows)

-- ---- an entry that is reused

-- where nothing is changed the store stands for what it stood for
pub unchanged : (numbers : Numbers) (content : Option Files) → LeavesStanding numbers numbers content content []
unchanged numbers content = record { knows = λ knows. knows; stands = λ rows lost knows stands. stands }

pub reuse_step : (task input : List ℕ) (outcome : Outcome) (entry : Entry) (value : ℤ) (numbers : Numbers) (content : Option Files) (result : Result ℤ OutFault) (takes takes_now : List (List ℕ × FoundEntry))
    → IfSome content (λ files. Reads files task entry) → as_short entry.value ≡ int value → entry.input ≡ input
    → IfOk result (λ own. own ≡ value) → OnOk result (takes_now ≡ takes ++ (task, Same input) ∷ []) → OnErr result (takes_now ≡ takes)
    → IsStep task input outcome numbers numbers content content result takes takes_now
reuse_step task input outcome entry value numbers content (Err refused) takes takes_now reads holds same own ok err = inl (record { stopped = refl; none_more = err; same_numbers = refl; out = refl })
reuse_step task input outcome entry value numbers content (Ok reused) takes takes_now reads holds same own ok err =
    let take : Take = record { task = task; input = input; found = Same input; value = value; generation = 0 } in
    inr (record {
      take = take;
      is_take = record {
        task_is = refl;
        input_is = refl;
        why = same_why task input content entry value reads holds same;
        value = same_given task input content outcome entry value reads holds same;
        generation = tt;
      };
      one_more = ok;
      end = (own, refl);
      others = λ t n other. ((λ used. used), (λ used. used));
      rows = unchanged numbers content;
    })

-- ---- publishing

pub whole_put : (own run : Finished) (numbers numbers_now : Numbers) (old new : Option Files) (result : Result ℕ OutFault) → own ≡ run
    → IfOk result (IsNext numbers own.task) → IfOk result (λ number. Takes numbers own.task number numbers_now) → IfOk result (λ number. new ≡ puts_in (puts_of own number) old)
    → IfOk result (IsPut run numbers numbers_now old new)
whole_put own run numbers numbers_now old new (Err refused) same next taken put = tt
whole_put own run numbers numbers_now old new (Ok number) same next taken put =
    subst (λ (r : Finished). IsPut r numbers numbers_now old new number) same (record { next = next; taken = taken; out = put })

-- where nothing was begun
pub unbegun_stands : (run : Finished) (numbers : Numbers) (content : Option Files) → LeavesStanding numbers numbers content content (row_of run ∷ [])
unbegun_stands run numbers content = record {
  knows = λ knows. knows;
  stands = λ rows lost knows stands. more_in content (row_of run) rows lost stands;
}
