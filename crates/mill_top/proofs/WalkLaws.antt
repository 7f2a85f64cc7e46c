-- Laws of taking the tasks of a plan one after another.
use Rattle.std.proofs.Common.{◌≡◌, ◌≢◌, ◌↔◌, ℕ, ℤ, ◌≤◌, inl, inr, Bool, true, false, cond, List, [], ◌∷◌, ◌++◌, map, reverse, codes, slice_get, length, get_or, drop, ◌+◌, ◌<◌, OnErr, IfSome, Option, Some, None, option_to_list, Result, Ok, Err, refl, sym, ap, subst, ◌∙◌, append_assoc, arith}
use Rattle.std.specs.Option.{option_map}
use Rattle.std.specs.List.{AllByRecursion}
use Rattle.std.specs.Str.{bytes_eq}
use Rattle.std.proofs.lemmas.Bool.{false≢true}
use Rattle.std.proofs.lemmas.List.{reverse-append, drop_more}
use Rattle.std.proofs.lemmas.Option.{same_Some}
use Rattle.std.proofs.lemmas.Slice.Eq.{bytes_eq-Decides}
use Rattle.io_traits.specs.Files.{Files, get, insert, put_in}
use Rattle.out_entry.specs.declared.entry.Entry.{Entry}
use Rattle.out_store.specs.Changes.{puts_in, at_name}
use Rattle.out_store.specs.Names.{IsTaskName, entry_name, log_name}
use Rattle.out_store.specs.Numbers.{IsUsed, IsNext}
use Rattle.out_store.specs.Publishing.{puts_of, log_text}
use Rattle.out_store.specs.Standing.{Row, StandsIn}
use Rattle.out_store.specs.declared.fault.OutFault.{OutFault}
use Rattle.out_store.specs.declared.numbers.Numbers.{Numbers}
use Rattle.out_store.proofs.ChangeLaws.{all_put}
use Rattle.out_store.proofs.FileLaws.{get_insert_other}
use Rattle.out_store.proofs.NameLaws.{entry_not_log, same_entry}
use Rattle.out_store.proofs.StandingLaws.{reads_along}
use Rattle.mill_top.specs.declared.outcome.Outcome.{Outcome}
use Rattle.mill_top.specs.declared.outcome.Outcome.TheVariants.{Returns}
use Rattle.mill_top.specs.declared.recorded.Record.{Record}
use Rattle.mill_top.specs.declared.takes.FoundEntry.{FoundEntry}
use Rattle.mill_top.specs.declared.takes.FoundEntry.TheVariants.{Missing, Other, Same}
use Rattle.mill_top.specs.declared.task_file.TaskFile.{TaskFile}
use Rattle.mill_top.specs.Chains.{latest, IsLink, IsChain}
use Rattle.mill_top.specs.Graphs.{task_in, task_name, inputs_of}
use Rattle.mill_top.specs.Inputs.{input_names, input_hash, IsDigested}
use Rattle.mill_top.specs.Scratch.{result_of}
use Rattle.mill_top.specs.Takes.{ReadsInt, Why, Take, task_of, seen, given, outcome_over, IsGivenBy, IsPutUnder, IsTakeOf, IsGiven}
use Rattle.mill_top.specs.Leaving.{finished_of, after, after_take, after_takes, MayLeaveAfter, MayLeave}
use Rattle.mill_top.specs.Answers.{AreTaken}
use Rattle.mill_top.specs.Walks.{OthersUse, RestUse, HasNext, IsReady, LeavesStanding, row_put, rows_put, IsUntaken, IsTaken, IsFileStep, latest_value, IsWalked, IsStopped}
use Rattle.mill_top.proofs.NumberLaws.{next_along}
use Rattle.mill_top.proofs.PathLaws.{letter_task}
use Rattle.mill_top.proofs.TakingLaws.{unchanged}

pub reverse-cons : {X : Type 0} (x : X) (xs : List X) → reverse (x ∷ xs) ≡ reverse xs ++ x ∷ []
reverse-cons x xs = reverse-append (x ∷ []) xs

-- ---- what stands under the entry name of a task that wasn't taken

put_other : (content : Option Files) (name bytes other : List ℕ) → other ≢ name → at_name other (put_in name bytes content) ≡ at_name other content
put_other None name bytes other differ = refl
put_other (Some files) name bytes other differ = ap (λ found. Some found) (get_insert_other files name bytes other differ)

run_other : (take : Take) (content : Option Files) (task : List ℕ) → IsTaskName task → IsTaskName take.task → task ≢ take.task
    → at_name (entry_name task) (puts_in (puts_of (finished_of take) take.generation) content) ≡ at_name (entry_name task) content
run_other take content task named own differ =
    put_other (put_in (log_name take.task) (log_text []) content) (entry_name take.task) _ (entry_name task) (λ same. differ (same_entry task take.task named own same))
    ∙ put_other content (log_name take.task) _ (entry_name task) (entry_not_log task take.task named own)

after_other : (found : FoundEntry) (take : Take) (content : Option Files) (task : List ℕ) → IsTaskName task → IsTaskName take.task → task ≢ take.task
    → at_name (entry_name task) (after found take content) ≡ at_name (entry_name task) content
after_other Missing take content task named own differ = run_other take content task named own differ
after_other (Other d) take content task named own differ = run_other take content task named own differ
after_other (Same d) take content task named own differ = refl

untouched : (done : List Take) (content : Option Files) (task : List ℕ) → IsTaskName task → AllByRecursion IsTaskName (map task_of done) → AllByRecursion (λ name. name ≢ task) (map task_of done)
    → at_name (entry_name task) (after_takes done content) ≡ at_name (entry_name task) content
untouched [] content task named own fresh = refl
untouched (take ∷ earlier) content task named own fresh =
    after_other take.found take (after_takes earlier content) task named own.0 (λ same. fresh.0 (sym same)) ∙ untouched earlier content task named own.1 fresh.1

-- ---- a take is one over the content before all takes as well

module _ (task : List ℕ) (old new : Files) (here : get new (entry_name task) ≡ get old (entry_name task)) where
  reads_back : (entry : Entry) (value : ℤ) → ReadsInt new task entry value → ReadsInt old task entry value
  reads_back entry value own = record { reads = reads_along old new task entry here own.reads; holds = own.holds }

  why_back : (input : List ℕ) (found : FoundEntry) → Why new task input found → Why old task input found
  why_back input Missing why = λ entry reads. why entry (reads_along new old task entry (sym here) reads)
  why_back input (Other d) (differs, (entry, reads, is)) = (differs, (entry, reads_along old new task entry here reads, is))
  why_back input (Same d) (same, (entry, value, own, is)) = (same, (entry, value, reads_back entry value own, is))

some_back : (P Q : Files → Type 0) (old new : Option Files) (name : List ℕ) → at_name name new ≡ at_name name old
    → ((f g : Files) → get g name ≡ get f name → P g → Q f) → IfSome new P → IfSome old Q
some_back P Q None new name here move h = tt
some_back P Q (Some f) None name here move h = cc
some_back P Q (Some f) (Some g) name here move h = move f g (same_Some _ _ here) h

given_back : (task : List ℕ) (found : FoundEntry) (outcome : Outcome) (value : ℤ) (old new : Option Files) → at_name (entry_name task) new ≡ at_name (entry_name task) old
    → IsGivenBy new task found outcome value → IsGivenBy old task found outcome value
given_back task Missing outcome value old new here gives = gives
given_back task (Other d) outcome value old new here gives = gives
given_back task (Same d) outcome value old new here gives =
    some_back (λ files. (entry : Entry) × ReadsInt files task entry value × (entry.input ≡ d)) (λ files. (entry : Entry) × ReadsInt files task entry value × (entry.input ≡ d)) old new (entry_name task) here
    (λ f g same (entry, own, is). (entry, reads_back task f g same entry value own, is)) gives

under_back : (task : List ℕ) (found : FoundEntry) (numbers numbers_now : Numbers) (number : ℕ) (old new : Option Files) → at_name (entry_name task) new ≡ at_name (entry_name task) old
    → ((n : ℕ) → IsUsed numbers_now task n ↔ IsUsed numbers task n) → IsPutUnder numbers_now new task found number → IsPutUnder numbers old task found number
under_back task Missing numbers numbers_now number old new here same under =
    some_back (λ files. IsNext numbers_now task number) (λ files. IsNext numbers task number) old new (entry_name task) here (λ f g e next. next_along numbers numbers_now task number same next) under
under_back task (Other d) numbers numbers_now number old new here same under =
    some_back (λ files. IsNext numbers_now task number) (λ files. IsNext numbers task number) old new (entry_name task) here (λ f g e next. next_along numbers numbers_now task number same next) under
under_back task (Same d) numbers numbers_now number old new here same under = tt

take_back : (task input : List ℕ) (outcome : Outcome) (numbers numbers_now : Numbers) (old new : Option Files) (take : Take) → at_name (entry_name task) new ≡ at_name (entry_name task) old
    → ((n : ℕ) → IsUsed numbers_now task n ↔ IsUsed numbers task n) → IsTakeOf task input outcome numbers_now new take → IsTakeOf task input outcome numbers old take
take_back task input outcome numbers numbers_now old new take here same is = record {
  task_is = is.task_is;
  input_is = is.input_is;
  why = some_back (λ files. Why files task input take.found) (λ files. Why files task input take.found) old new (entry_name task) here (λ f g e why. why_back task f g e input take.found why) is.why;
  value = given_back task take.found outcome take.value old new here is.value;
  generation = under_back task take.found numbers numbers_now take.generation old new here same is.generation;
}

-- ---- a take that ended leaves what it may leave

pub whole_take : (found : FoundEntry) (take : Take) (content : Option Files) → MayLeaveAfter found take content (after found take content)
whole_take Missing take content = all_put (puts_of (finished_of take) take.generation) content _ refl
whole_take (Other d) take content = all_put (puts_of (finished_of take) take.generation) content _ refl
whole_take (Same d) take content = refl

pub whole_takes : (done : List Take) (content : Option Files) → MayLeave done content (after_takes done content)
whole_takes [] content = refl
whole_takes (take ∷ earlier) content = whole_take take.found take (after_takes earlier content)

-- ---- one more take

latest_given : (done : List Take) → map (given done) (latest (map task_of done)) ≡ map (λ value. Some value) (option_to_list (latest_value done))
latest_given [] = refl
latest_given (take ∷ earlier) = rw ((bytes_eq-Decides take.task take.task).1 refl) refl

first_of_option : (value : Option ℤ) → slice_get (option_to_list value) 0 ≡ value
first_of_option None = refl
first_of_option (Some value) = refl

values_given : (files : Files) (file : TaskFile) (done : List Take) (value : Option ℤ) → IsLink files (map task_of done) file → value ≡ latest_value done
    → map (given done) (input_names files (task_name file)) ≡ map (λ value. Some value) (option_to_list value)
values_given files file done value link is =
    rw link.known (ap (map (given done)) link.inputs ∙ latest_given done ∙ ap (λ v. map (λ value. Some value) (option_to_list v)) (sym is))

outcome_given : (files : Files) (file : TaskFile) (value : Option ℤ) → task_in files (task_name file) ≡ Some file
    → outcome_over files (task_name file) (option_to_list value) ≡ Some (Returns (result_of file.body value) [])
outcome_given files file value known =
    rw known (ap (λ v. Some (Returns (result_of file.body v) [])) (first_of_option value))

one_given : (inputs : Record) (file : TaskFile) (value : Option ℤ) (numbers numbers_now : Numbers) (old mid : Option Files) (done : List Take) (take : Take)
    → IsLink inputs.files (map task_of done) file → value ≡ latest_value done → mid ≡ after_takes done old
    → AllByRecursion IsTaskName (map task_of done) → RestUse (map task_of done) numbers numbers_now
    → IsDigested inputs (task_name file) (option_to_list value)
    → IsTakeOf (task_name file) (input_hash inputs (task_name file) (option_to_list value)) (Returns (result_of file.body value) []) numbers_now mid take
    → IsGiven inputs numbers old done take
one_given inputs file value numbers numbers_now old mid done take link is out named others digested is_take =
    let name = task_name file in
    let values = option_to_list value in
    let outcome = Returns (result_of file.body value) [] in
    let here : at_name (entry_name name) mid ≡ at_name (entry_name name) old = ap (at_name (entry_name name)) out ∙ untouched done old name (letter_task file.task link.low link.high) named link.fresh in
    let moved : IsTakeOf name (input_hash inputs name values) outcome numbers old take = take_back name (input_hash inputs name values) outcome numbers numbers_now old mid take here (λ n. others name n link.fresh) is_take in
    let back : name ≡ take.task = sym is_take.task_is in
    record {
      values = values;
      values_are = subst (λ task. map (given done) (input_names inputs.files task) ≡ map (λ value. Some value) values) back (values_given inputs.files file done value link is);
      digested = subst (λ task. IsDigested inputs task values) back digested;
      outcome = outcome;
      outcome_is = subst (λ task. outcome_over inputs.files task values ≡ Some outcome) back (outcome_given inputs.files file value link.known);
      is_take = subst (λ task. IsTakeOf task (input_hash inputs task values) outcome numbers old take) back moved;
    }

one_taken : (inputs : Record) (plan : List TaskFile) (numbers : Numbers) (old : Option Files) (takes takes_now : List (List ℕ × FoundEntry)) (done : List Take) (file : TaskFile) (rest : List TaskFile) (take : Take)
    → AreTaken inputs plan numbers old takes done (file ∷ rest) → takes_now ≡ takes ++ seen take ∷ [] → take.task ≡ task_name file → IsGiven inputs numbers old done take
    → AreTaken inputs plan numbers old takes_now (take ∷ done) rest
one_taken inputs plan numbers old takes takes_now done file rest take taken more is one = record {
  all_seen = more ∙ ap (λ front. front ++ seen take ∷ []) taken.all_seen ∙ sym (reverse-cons (seen take) (map seen done));
  in_order =
      ap (λ front. front ++ map task_name rest) (reverse-cons take.task (map task_of done))
      ∙ append_assoc (reverse (map task_of done)) (take.task ∷ []) (map task_name rest)
      ∙ ap (λ name. reverse (map task_of done) ++ name ∷ map task_name rest) is
      ∙ taken.in_order;
  are_given = (one, taken.are_given);
}

-- whatever the store stood for it stands for after both
both_leave : (a b c : Numbers) (old mid new : Option Files) (first second : List Row) → LeavesStanding a b old mid first → LeavesStanding b c mid new second → LeavesStanding a c old new (second ++ first)
both_leave a b c old mid new first second one two = record {
  knows = λ knows. two.knows (one.knows knows);
  stands = λ rows lost knows stands. subst (λ all. StandsIn new all lost) (sym (append_assoc second first rows)) (two.stands (first ++ rows) lost (one.knows knows) (one.stands rows lost knows stands));
}

-- the numbers of tasks that weren't taken are used as before one more take
rest_more : (taken : List (List ℕ)) (task name : List ℕ) (numbers mid now : Numbers) → task ≡ name → RestUse taken numbers mid → OthersUse task mid now → RestUse (name ∷ taken) numbers now
rest_more taken task name numbers mid now is rest others = λ t n fresh.
    let before = rest t n fresh.1 in
    let one = others t n (λ same. fresh.0 (sym is ∙ sym same)) in
    ((λ used. before.0 (one.0 used)), (λ used. one.1 (before.1 used)))

pub walk_start : (inputs : Record) (plan : List TaskFile) (numbers : Numbers) (old : Option Files) (takes : List (List ℕ × FoundEntry)) → takes ≡ [] → IsChain inputs.files [] plan
    → IsWalked inputs plan numbers numbers old old takes plan None
walk_start inputs plan numbers old takes none chain = record {
  done = [];
  taken = record { all_seen = none; in_order = refl; are_given = tt };
  out = refl;
  value_is = refl;
  chain = chain;
  named = tt;
  others = λ task n fresh. ((λ used. used), (λ used. used));
  rows = unchanged numbers old;
}

pub walk_more : (inputs : Record) (plan : List TaskFile) (numbers numbers_mid numbers_now : Numbers) (old mid new : Option Files) (takes takes_now : List (List ℕ × FoundEntry)) (file : TaskFile) (rest : List TaskFile) (before : Option ℤ) (value : ℤ)
    → IsWalked inputs plan numbers numbers_mid old mid takes (file ∷ rest) before → IsFileStep inputs file before numbers_mid numbers_now mid new (Ok value) takes takes_now
    → IsWalked inputs plan numbers numbers_now old new takes_now rest (Some value)
walk_more inputs plan numbers numbers_mid numbers_now old mid new takes takes_now file rest before value walked (inl untaken) = absurd (false≢true untaken.stopped)
walk_more inputs plan numbers numbers_mid numbers_now old mid new takes takes_now file rest before value walked (inr (digested, taken)) =
    let take = taken.take in
    let link = walked.chain.0 in
    record {
      done = take ∷ walked.done;
      taken = one_taken inputs plan numbers old takes takes_now walked.done file rest take walked.taken taken.one_more taken.is_take.task_is
          (one_given inputs file before numbers numbers_mid old mid walked.done take link walked.value_is walked.out walked.named walked.others digested taken.is_take);
      out = taken.end.1 ∙ ap (after_take take) walked.out;
      value_is = ap (λ v. Some v) taken.end.0;
      chain = subst (λ name. IsChain inputs.files (name ∷ map task_of walked.done) rest) (sym taken.is_take.task_is) walked.chain.1;
      named = (subst IsTaskName (sym taken.is_take.task_is) (letter_task file.task link.low link.high), walked.named);
      others = rest_more (map task_of walked.done) (task_name file) take.task numbers numbers_mid numbers_now (sym taken.is_take.task_is) walked.others taken.others;
      rows = both_leave numbers numbers_mid numbers_now old mid new (rows_put walked.done) (row_put take.found take) walked.rows taken.rows;
    }

pub walk_stopped : (inputs : Record) (plan : List TaskFile) (numbers numbers_mid numbers_now : Numbers) (old mid new : Option Files) (takes takes_now : List (List ℕ × FoundEntry)) (file : TaskFile) (rest : List TaskFile) (before : Option ℤ) (refused : OutFault)
    → IsWalked inputs plan numbers numbers_mid old mid takes (file ∷ rest) before → IsFileStep inputs file before numbers_mid numbers_now mid new (Err refused) takes takes_now
    → IsStopped inputs plan numbers numbers_now old new takes_now
walk_stopped inputs plan numbers numbers_mid numbers_now old mid new takes takes_now file rest before refused walked (inl untaken) = record {
  done = walked.done;
  rest = file ∷ rest;
  taken = subst (λ ts. AreTaken inputs plan numbers old ts walked.done (file ∷ rest)) (sym untaken.none_more) walked.taken;
  left = subst (MayLeave walked.done old) (sym (untaken.out ∙ walked.out)) (whole_takes walked.done old);
  rows = subst (λ n. LeavesStanding numbers n old new (rows_put walked.done)) (sym untaken.same_numbers) (subst (λ c. LeavesStanding numbers numbers_mid old c (rows_put walked.done)) (sym untaken.out) walked.rows);
}
walk_stopped inputs plan numbers numbers_mid numbers_now old mid new takes takes_now file rest before refused walked (inr (digested, taken)) =
    let take = taken.take in
    record {
      done = take ∷ walked.done;
      rest = rest;
      taken = one_taken inputs plan numbers old takes takes_now walked.done file rest take walked.taken taken.one_more taken.is_take.task_is
          (one_given inputs file before numbers numbers_mid old mid walked.done take walked.chain.0 walked.value_is walked.out walked.named walked.others digested taken.is_take);
      left = subst (λ content. MayLeaveAfter take.found take content new) walked.out taken.end;
      rows = both_leave numbers numbers_mid numbers_now old mid new (rows_put walked.done) (row_put take.found take) walked.rows taken.rows;
    }

-- ---- the same at a place of the plan

walk_at : (inputs : Record) (plan : List TaskFile) (numbers numbers_mid : Numbers) (old mid : Option Files) (takes : List (List ℕ × FoundEntry)) (i : ℕ) (d : TaskFile) (before : Option ℤ) → i < length plan
    → IsWalked inputs plan numbers numbers_mid old mid takes (drop i plan) before → IsWalked inputs plan numbers numbers_mid old mid takes (get_or plan i d ∷ drop (i + 1) plan) before
walk_at inputs plan numbers numbers_mid old mid takes i d before within walked = subst (λ rest. IsWalked inputs plan numbers numbers_mid old mid takes rest before) (drop_more plan i d within) walked

pub more_at : (inputs : Record) (plan : List TaskFile) (numbers numbers_mid numbers_now : Numbers) (old mid new : Option Files) (takes takes_now : List (List ℕ × FoundEntry)) (i : ℕ) (d : TaskFile) (before : Option ℤ) (value : ℤ) → i < length plan
    → IsWalked inputs plan numbers numbers_mid old mid takes (drop i plan) before → IsFileStep inputs (get_or plan i d) before numbers_mid numbers_now mid new (Ok value) takes takes_now
    → IsWalked inputs plan numbers numbers_now old new takes_now (drop (i + 1) plan) (Some value)
more_at inputs plan numbers numbers_mid numbers_now old mid new takes takes_now i d before value within walked step =
    walk_more inputs plan numbers numbers_mid numbers_now old mid new takes takes_now (get_or plan i d) (drop (i + 1) plan) before value (walk_at inputs plan numbers numbers_mid old mid takes i d before within walked) step

pub stopped_at : (inputs : Record) (plan : List TaskFile) (numbers numbers_mid numbers_now : Numbers) (old mid new : Option Files) (takes takes_now : List (List ℕ × FoundEntry)) (i : ℕ) (d : TaskFile) (before : Option ℤ) (refused : OutFault) → i < length plan
    → IsWalked inputs plan numbers numbers_mid old mid takes (drop i plan) before → IsFileStep inputs (get_or plan i d) before numbers_mid numbers_now mid new (Err refused) takes takes_now
    → IsStopped inputs plan numbers numbers_now old new takes_now
stopped_at inputs plan numbers numbers_mid numbers_now old mid new takes takes_now i d before refused within walked step =
    walk_stopped inputs plan numbers numbers_mid numbers_now old mid new takes takes_now (get_or plan i d) (drop (i + 1) plan) before refused (walk_at inputs plan numbers numbers_mid old mid takes i d before within walked) step

-- the next task of the plan has a free number
pub next_at : (inputs : Record) (plan : List TaskFile) (numbers numbers_mid : Numbers) (old mid : Option Files) (takes : List (List ℕ × FoundEntry)) (i : ℕ) (d : TaskFile) (before : Option ℤ) → i < length plan
    → IsReady numbers old → IsWalked inputs plan numbers numbers_mid old mid takes (drop i plan) before → HasNext numbers_mid mid (task_name (get_or plan i d))
next_at inputs plan numbers numbers_mid old mid takes i d before within ready walked =
    let here = walk_at inputs plan numbers numbers_mid old mid takes i d before within walked in
    let link = here.chain.0 in
    let name = task_name (get_or plan i d) in
    let same = untouched here.done old name (letter_task (get_or plan i d).task link.low link.high) here.named link.fresh in
    some_back (λ files. (number : ℕ) × IsNext numbers name number) (λ files. (number : ℕ) × IsNext numbers_mid name number) mid old (entry_name name)
    (sym (ap (at_name (entry_name name)) here.out ∙ same))
    (λ f g e (number, next). (number, next_along numbers_mid numbers name number (λ n. let iff = here.others name n link.fresh in (iff.1, iff.0)) next)) (ready.next name)

pub on_err : {T E : Type 0} (result : Result T E) (P : Type 0) → P → OnErr result P
on_err (Ok value) P p = tt
on_err (Err refused) P p = p
