-- Laws of the rows of runs.
use Rattle.std.proofs.Common.{◌≡◌, ℕ, zero, suc, ℤ, ◌⊎◌, inl, inr, List, [], ◌∷◌, ◌++◌, flat_map, Option, Some, None, Contains, refl, sym, ap, subst, ◌∙◌, arith}
use Rattle.std.proofs.lemmas.List.Elements.{Contains-append_cases}
use Rattle.std.proofs.lemmas.List.Concat.{flat_map-append}
use Rattle.io_traits.specs.Files.{Files}
use Rattle.tree_value.specs.declared.value.Value.TheFolds.{fold-roll-Value}
use Rattle.tree_value.specs.declared.value.Value.TheOpen.{Value-F}
use Rattle.tree_value.specs.declared.value.Value.TheVariants.{Int}
use Rattle.tree_value.specs.declared.value.Value.TheViews.{rolls-Int}
use Rattle.value_text.specs.Short.{Short, as_short, as_short_step, int}
use Rattle.out_store.specs.Opening.{IsOpened, LeftByOpening}
use Rattle.out_store.specs.Standing.{Row, Stands, StandsIn}
use Rattle.out_store.specs.declared.numbers.Numbers.{Numbers}
use Rattle.out_store.proofs.OpeningStands.{opening_stands, opened_left}
use Rattle.mill_top.specs.declared.outcome.Outcome.{Outcome}
use Rattle.mill_top.specs.declared.outcome.Outcome.TheVariants.{Returns}
use Rattle.mill_top.specs.Inputs.{Run, input_hash, scratch_values}
use Rattle.mill_top.specs.Scratch.{scratch}
use Rattle.mill_top.specs.Standing.{row_by, rows_of}

pub holds_int : (value : ℤ) → as_short (Int value) ≡ int value
holds_int value = ap as_short (sym (rolls-Int value)) ∙ fold-roll-Value Short as_short_step (Value-F.Int value)

pub no_element : {X : Type 0} (x : X) (P : Type 0) → Contains [] x → P
no_element x P (k, within, is) = absurd (omega (arith, within))

only_element : {X : Type 0} (own x : X) → Contains (own ∷ []) x → x ≡ own
only_element own x (zero, within, is) = sym is
only_element own x (suc k, within, is) = absurd (omega (arith, within))

-- a run of which a row is
pub record IsRowOf (runs : List Run) (row : Row) : Type 0 where
  pub run : Run
  pub among : Contains runs run
  pub number : ℤ
  pub log : List (List ℕ)
  pub returns : scratch run.inputs run.task ≡ Some (Returns number log)
  pub task : row.task ≡ run.task
  pub input : row.input ≡ input_hash run.inputs run.task (scratch_values run.inputs run.task)
  pub value : row.value ≡ Int number

row_of_one : (run : Run) (runs : List Run) (outcome : Option Outcome) (row : Row) → scratch run.inputs run.task ≡ outcome → Contains (row_by run outcome) row → IsRowOf (run ∷ runs) row
row_of_one run runs None row is among = no_element row (IsRowOf (run ∷ runs) row) among
row_of_one run runs (Some (Returns number log)) row is among =
    let same = only_element _ row among in
    record {
      run = run;
      among = (0, omega arith, refl);
      number = number;
      log = log;
      returns = is;
      task = ap (λ (r : Row). r.task) same;
      input = ap (λ (r : Row). r.input) same;
      value = ap (λ (r : Row). r.value) same;
    }

row_of_more : (run : Run) (runs : List Run) (row : Row) → IsRowOf runs row → IsRowOf (run ∷ runs) row
row_of_more run runs row h = record {
  run = h.run;
  among = let (k, within, is) = h.among in (suc k, omega (arith, within), is);
  number = h.number;
  log = h.log;
  returns = h.returns;
  task = h.task;
  input = h.input;
  value = h.value;
}

pub run_of_row : (runs : List Run) (row : Row) → Contains (rows_of runs) row → IsRowOf runs row
run_of_row [] row among = no_element row (IsRowOf [] row) among
run_of_row (run ∷ runs) row among = elim (Contains-append_cases (row_by run (scratch run.inputs run.task)) (rows_of runs) row among) as (λ _. IsRowOf (run ∷ runs) row) [
  | inl here ↦ row_of_one run runs (scratch run.inputs run.task) row refl here
  | inr later ↦ row_of_more run runs row (run_of_row runs row later)
]

pub rows-append : (runs more : List Run) → rows_of (runs ++ more) ≡ rows_of runs ++ rows_of more
rows-append runs more = flat_map-append (λ (run : Run). row_by run (scratch run.inputs run.task)) runs more

-- ---- a store stands for all of more rows

pub stands_among : (content : Option Files) (rows all : List Row) (lost : List (List ℕ)) → ((row : Row) → Contains rows row → Contains all row) → StandsIn content rows lost → StandsIn content all lost
stands_among None rows all lost more stands = stands
stands_among (Some files) rows all lost more stands = record {
  entries = λ task entry reads. let found = stands.entries task entry reads in (found.0, more found.0 found.1, found.2);
  dests = stands.dests;
}

-- what a store stood for it stands for once it is opened
pub opened_stands : (before now : Option Files) (numbers : Numbers) (rows : List Row) (lost : List (List ℕ)) → IsOpened before now numbers → StandsIn before rows lost → StandsIn now rows lost
opened_stands before now numbers rows lost opened stands =
    let (gone, is, are) = opened.content in
    opening_stands before now rows lost (opened_left before now gone is are) stands
