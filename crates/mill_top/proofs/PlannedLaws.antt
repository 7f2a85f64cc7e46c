-- The tasks that were taken are among those that are planned, and their values are those from scratch.
use Rattle.std.proofs.Common.{◌≡◌, ℕ, zero, suc, List, [], ◌∷◌, ◌++◌, map, reverse, flat_map, Option, Some, None, IsSome, Contains, refl, sym, ap, subst, ◌∙◌, arith, append_assoc}
use Rattle.std.specs.List.{AllByRecursion}
use Rattle.std.proofs.lemmas.List.Elements.{Contains-append_left, Contains-append_right}
use Rattle.io_traits.specs.Files.{Files}
use Rattle.out_store.specs.Numbers.{KnowsIn}
use Rattle.out_store.specs.Standing.{Stands}
use Rattle.out_store.specs.declared.numbers.Numbers.{Numbers}
use Rattle.mill_top.specs.declared.recorded.Record.{Record}
use Rattle.mill_top.specs.declared.takes.FoundEntry.{FoundEntry}
use Rattle.mill_top.specs.declared.task_file.TaskFile.{TaskFile}
use Rattle.mill_top.specs.Words.{asked}
use Rattle.mill_top.specs.Graphs.{refusal_of_build, plan, task_name}
use Rattle.mill_top.specs.Inputs.{Run, texts, Clean}
use Rattle.mill_top.specs.Takes.{Take, task_of, seen, AreGiven, runs_of}
use Rattle.mill_top.specs.Standing.{rows_of, StandsIn}
use Rattle.mill_top.specs.Answers.{AreTaken, planned_runs, all_texts}
use Rattle.mill_top.specs.Walks.{LeavesStanding, rows_put}
use Rattle.mill_top.proofs.StandingLaws.{AreFromRuns, stands_after}
use Rattle.mill_top.proofs.ValueLaws.{AreScratch, all_scratch, input_scratch}
use Rattle.mill_top.proofs.WalkLaws.{reverse-cons}

-- ---- the tasks that were taken are among those that are planned

abbrev run_over : Record → List ℕ → Run
run_over inputs task = record { inputs = inputs; task = task }

contains_more : (one : Run) (runs : List Run) (run : Run) → Contains runs run → Contains (one ∷ runs) run
contains_more one runs run (k, within, is) = (suc k, omega arith, is)

more_contain : (inputs : Record) (one : Run) (runs : List Run) (names : List (List ℕ)) → AllByRecursion (λ task. Contains runs (run_over inputs task)) names
    → AllByRecursion (λ task. Contains (one ∷ runs) (run_over inputs task)) names
more_contain inputs one runs [] all = tt
more_contain inputs one runs (name ∷ names) all = (contains_more one runs (run_over inputs name) all.0, more_contain inputs one runs names all.1)

all_planned : (inputs : Record) (files : List TaskFile) (runs : List Run)
    → AllByRecursion (λ task. Contains (map (λ file. run_over inputs (task_name file)) files ++ runs) (run_over inputs task)) (map task_name files)
all_planned inputs [] runs = tt
all_planned inputs (file ∷ files) runs =
    ((0, omega arith, refl), more_contain inputs (run_over inputs (task_name file)) (map (λ file. run_over inputs (task_name file)) files ++ runs) (map task_name files) (all_planned inputs files runs))

all_of_reverse : (P : List ℕ → Type 0) (xs ys : List (List ℕ)) → AllByRecursion P (reverse xs ++ ys) → AllByRecursion P xs × AllByRecursion P ys
all_of_reverse P [] ys all = (tt, all)
all_of_reverse P (x ∷ xs) ys all =
    let both = all_of_reverse P xs (x ∷ ys) (subst (AllByRecursion P) (ap (λ front. front ++ ys) (reverse-cons x xs) ∙ append_assoc (reverse xs) (x ∷ []) ys) all) in
    ((both.1.0, both.0), both.1.1)

-- ---- the values are those from scratch

pub evaluated_scratch : (files : Files) (runs : List Run) (lost : List (List ℕ)) (inputs : Record) (task : List ℕ) (numbers : Numbers) (done : List Take) (rest : List TaskFile)
    → refusal_of_build inputs.files ≡ None → Stands files (rows_of runs) lost → Clean (flat_map texts (planned_runs inputs (Some task) ++ runs))
    → reverse (map task_of done) ++ map task_name rest ≡ map task_name (plan inputs.files task) → AreGiven inputs numbers (Some files) done → AreScratch inputs done
evaluated_scratch files runs lost inputs task numbers done rest accepted stands clean order given =
    let all = planned_runs inputs (Some task) ++ runs in
    let here : AllByRecursion (λ task. Contains all (run_over inputs task)) (map task_of done) =
    (all_of_reverse (λ task. Contains all (run_over inputs task)) (map task_of done) (map task_name rest)
    (subst (AllByRecursion (λ task. Contains all (run_over inputs task))) (sym order) (all_planned inputs (plan inputs.files task) runs))).0 in
    all_scratch files runs all lost inputs numbers done accepted stands clean here (λ run. Contains-append_right (planned_runs inputs (Some task)) runs run) given

-- ---- the store stands for the runs of takes as well

all_from_runs : (inputs : Record) (numbers : Numbers) (files : Files) (done : List Take) → AreGiven inputs numbers (Some files) done → AreScratch inputs done → AreFromRuns inputs done
all_from_runs inputs numbers files [] given scratches = tt
all_from_runs inputs numbers files (take ∷ earlier) given scratches = (
  (scratches.0, input_scratch inputs numbers (Some files) earlier take given.0 scratches.1),
  all_from_runs inputs numbers files earlier given.1 scratches.1,
)

pub taken_stands : (inputs : Record) (task : List ℕ) (planned : List TaskFile) (numbers numbers_now : Numbers) (old new : Option Files) (takes : List (List ℕ × FoundEntry)) (done : List Take) (rest : List TaskFile) (runs : List Run) (lost : List (List ℕ))
    → planned ≡ plan inputs.files task → refusal_of_build inputs.files ≡ None → asked inputs.words ≡ Some task → (IsSome old → KnowsIn old numbers)
    → AreTaken inputs planned numbers old takes done rest → LeavesStanding numbers numbers_now old new (rows_put done)
    → StandsIn old runs lost → Clean (all_texts inputs runs) → StandsIn new (runs ++ runs_of inputs takes) lost
taken_stands inputs task planned numbers numbers_now None new takes done rest runs lost is accepted asks knows taken rows stands clean = absurd stands
taken_stands inputs task planned numbers numbers_now (Some files) new takes done rest runs lost is accepted asks knows taken rows stands clean =
    let own_clean : Clean (flat_map texts (planned_runs inputs (Some task) ++ runs)) = subst (λ asks. Clean (flat_map texts (planned_runs inputs asks ++ runs))) asks clean in
    let scratches = evaluated_scratch files runs lost inputs task numbers done rest accepted stands own_clean (taken.in_order ∙ ap (map task_name) is) taken.are_given in
    subst (λ ts. StandsIn new (runs ++ runs_of inputs ts) lost) (sym taken.all_seen)
    (stands_after inputs done new runs lost (all_from_runs inputs numbers files done taken.are_given scratches) (rows.stands (rows_of runs) lost (knows refl) stands))
