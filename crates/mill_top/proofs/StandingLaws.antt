-- What a store stands for after the runs of takes.
use Rattle.std.proofs.Common.{◌≡◌, ℕ, ℤ, ◌⊎◌, inl, inr, List, [], ◌∷◌, ◌++◌, map, reverse, Option, Some, None, Contains, refl, sym, ap, subst, ◌∙◌}
use Rattle.std.proofs.lemmas.List.{append-nil}
use Rattle.std.proofs.lemmas.List.Concat.{flat_map-append}
use Rattle.std.proofs.lemmas.List.Elements.{Contains-append_left, Contains-append_right, Contains-append_cases}
use Rattle.io_traits.specs.Files.{Files}
use Rattle.tree_value.specs.declared.value.Value.TheVariants.{Int}
use Rattle.out_store.specs.Standing.{Row, row_of}
use Rattle.out_store.specs.Standing as rows
use Rattle.mill_top.specs.declared.outcome.Outcome.{Outcome}
use Rattle.mill_top.specs.declared.outcome.Outcome.TheVariants.{Returns}
use Rattle.mill_top.specs.declared.recorded.Record.{Record}
use Rattle.mill_top.specs.declared.takes.FoundEntry.{FoundEntry}
use Rattle.mill_top.specs.declared.takes.FoundEntry.TheVariants.{Missing, Other, Same}
use Rattle.mill_top.specs.Inputs.{Run, input_hash, scratch_values}
use Rattle.mill_top.specs.Leaving.{finished_of}
use Rattle.mill_top.specs.Scratch.{scratch}
use Rattle.mill_top.specs.Standing.{row_by, rows_of, StandsIn}
use Rattle.mill_top.specs.Takes.{Take, seen, run_of, runs_of}
use Rattle.mill_top.specs.Walks.{row_put, rows_put}
use Rattle.mill_top.proofs.RowLaws.{no_element, rows-append, stands_among}
use Rattle.mill_top.proofs.ValueLaws.{HasScratch}
use Rattle.mill_top.proofs.WalkLaws.{reverse-cons}

-- a take whose value and input hash are those from scratch
abbrev pub IsFromRun : Record → Take → Type 0
IsFromRun inputs take = HasScratch inputs take × (take.input ≡ input_hash inputs take.task (scratch_values inputs take.task))

abbrev pub AreFromRuns : Record → List Take → Type 0
AreFromRuns inputs [] = Unit {0}
AreFromRuns inputs (take ∷ earlier) = IsFromRun inputs take × AreFromRuns inputs earlier

-- the row that is put is that of the run
row_is : (inputs : Record) (take : Take) → IsFromRun inputs take → row_of (finished_of take) ∷ [] ≡ rows_of (record { inputs = inputs; task = take.task } ∷ [])
row_is inputs take from =
    let run : Run = record { inputs = inputs; task = take.task } in
    let row : List ℕ → Row = λ input. record { task = take.task; input = input; value = Int take.value; dest = [] } in
    ap (λ input. row input ∷ []) from.1 ∙ ap (λ outcome. row_by run outcome ++ []) (sym from.0.1)

run_among : (inputs : Record) (take : Take) (outcome : Option Outcome) (row : Row) → scratch inputs take.task ≡ outcome → IsFromRun inputs take → Contains (row_of (finished_of take) ∷ []) row
    → Contains (rows_of (run_of inputs take.task Missing outcome)) row
run_among inputs take None row is from among = let none : None ≡ Some (Returns take.value from.0.0) = sym is ∙ from.0.1 in cc
run_among inputs take (Some outcome) row is from among = subst (λ all. Contains all row) (row_is inputs take from) among

one_among : (inputs : Record) (take : Take) (found : FoundEntry) (outcome : Option Outcome) (row : Row) → scratch inputs take.task ≡ outcome → IsFromRun inputs take → Contains (row_put found take) row
    → Contains (rows_of (run_of inputs take.task found outcome)) row
one_among inputs take (Same d) outcome row is from among = among
one_among inputs take Missing outcome row is from among = run_among inputs take outcome row is from among
one_among inputs take (Other d) None row is from among = run_among inputs take None row is from among
one_among inputs take (Other d) (Some outcome) row is from among = run_among inputs take (Some outcome) row is from among

-- the runs of takes and of one more
runs_more : (inputs : Record) (take : Take) (earlier : List Take) → runs_of inputs (reverse (map seen (take ∷ earlier)))
    ≡ runs_of inputs (reverse (map seen earlier)) ++ run_of inputs take.task take.found (scratch inputs take.task)
runs_more inputs take earlier =
    ap (runs_of inputs) (reverse-cons (seen take) (map seen earlier))
    ∙ flat_map-append (λ one. run_of inputs one.0 one.1 (scratch inputs one.0)) (reverse (map seen earlier)) (seen take ∷ [])
    ∙ ap (λ more. runs_of inputs (reverse (map seen earlier)) ++ more) (append-nil (run_of inputs take.task take.found (scratch inputs take.task)))

-- the rows that takes put are those of their runs
all_among : (inputs : Record) (done : List Take) (row : Row) → AreFromRuns inputs done → Contains (rows_put done) row → Contains (rows_of (runs_of inputs (reverse (map seen done)))) row
all_among inputs [] row from among = no_element row _ among
all_among inputs (take ∷ earlier) row from among =
    let before = runs_of inputs (reverse (map seen earlier)) in
    let own = run_of inputs take.task take.found (scratch inputs take.task) in
    subst (λ all. Contains all row) (sym (ap rows_of (runs_more inputs take earlier) ∙ rows-append before own))
    (elim (Contains-append_cases (row_put take.found take) (rows_put earlier) row among) as (λ _. Contains (rows_of before ++ rows_of own) row) [
      | inl here ↦ Contains-append_right (rows_of before) (rows_of own) row (one_among inputs take take.found (scratch inputs take.task) row refl from.0 here)
      | inr later ↦ Contains-append_left (rows_of before) (rows_of own) row (all_among inputs earlier row from.1 later)
    ])

-- after takes a store stands for their runs as well
pub stands_after : (inputs : Record) (done : List Take) (new : Option Files) (runs : List Run) (lost : List (List ℕ)) → AreFromRuns inputs done
    → rows.StandsIn new (rows_put done ++ rows_of runs) lost → StandsIn new (runs ++ runs_of inputs (reverse (map seen done))) lost
stands_after inputs done new runs lost from stands =
    let more = runs_of inputs (reverse (map seen done)) in
    subst (λ all. rows.StandsIn new all lost) (sym (rows-append runs more))
    (stands_among new (rows_put done ++ rows_of runs) (rows_of runs ++ rows_of more) lost
    (λ row among. elim (Contains-append_cases (rows_put done) (rows_of runs) row among) as (λ _. Contains (rows_of runs ++ rows_of more) row) [
      | inl put ↦ Contains-append_right (rows_of runs) (rows_of more) row (all_among inputs done row from put)
      | inr before ↦ Contains-append_left (rows_of runs) (rows_of more) row before
    ])
    stands)
