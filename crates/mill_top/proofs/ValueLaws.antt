-- The values that takes give are those from scratch, where the store stands for runs and no texts collide.
use Rattle.std.proofs.Common.{◌≡◌, ℕ, ℤ, Bool, true, false, List, [], ◌∷◌, map, flat_map, slice_get, if◌then◌else◌, Option, Some, None, Contains, refl, sym, ap, subst, ◌∙◌}
use Rattle.std.specs.Option.{option_map}
use Rattle.std.specs.List.{AllByRecursion, filter_map}
use Rattle.std.specs.Str.{bytes_eq}
use Rattle.std.proofs.lemmas.Slice.Eq.{bytes_eq-Decides}
use Rattle.io_traits.specs.Files.{Files}
use Rattle.value_text.specs.Short.{as_short, int}
use Rattle.out_store.specs.Standing.{Stands}
use Rattle.out_store.specs.declared.numbers.Numbers.{Numbers}
use Rattle.mill_top.specs.declared.outcome.Outcome.{Outcome}
use Rattle.mill_top.specs.declared.outcome.Outcome.TheVariants.{Returns}
use Rattle.mill_top.specs.declared.recorded.Record.{Record}
use Rattle.mill_top.specs.declared.takes.FoundEntry.{FoundEntry}
use Rattle.mill_top.specs.declared.takes.FoundEntry.TheVariants.{Missing, Other, Same}
use Rattle.mill_top.specs.declared.task_file.Body.{Body}
use Rattle.mill_top.specs.declared.task_file.Body.TheVariants.{Constant, Linked}
use Rattle.mill_top.specs.declared.task_file.TaskFile.{TaskFile}
use Rattle.mill_top.specs.Graphs.{task_in, refusal_of_build, inputs_of}
use Rattle.mill_top.specs.Inputs.{input_names, input_hash, scratch_values, Run, texts, Clean, IsDigested}
use Rattle.mill_top.specs.Scratch.{scratch, result_of, outcome_of, value_of}
use Rattle.mill_top.specs.Standing.{rows_of}
use Rattle.mill_top.specs.Takes.{Why, Take, task_of, given, outcome_over, IsGivenBy, IsTakeOf, IsGiven, AreGiven}
use Rattle.mill_top.proofs.RowLaws.{holds_int, run_of_row}
use Rattle.mill_top.proofs.ScratchLaws.{task-scratch}
use Rattle.mill_top.proofs.InputLaws.{same_scratch}

-- the task of a take has its value from scratch
abbrev pub HasScratch : Record → Take → Type 0
HasScratch inputs take = (log : List (List ℕ)) × (scratch inputs take.task ≡ Some (Returns take.value log))

abbrev pub AreScratch : Record → List Take → Type 0
AreScratch inputs [] = Unit {0}
AreScratch inputs (take ∷ earlier) = HasScratch inputs take × AreScratch inputs earlier

-- the value that a task has from scratch, if it has one
abbrev pub scratch_value : Record → List ℕ → Option ℤ
scratch_value inputs name = option_map value_of (scratch inputs name)

value_by : (inputs : Record) (take : Take) (name : List ℕ) (value : ℤ) (test : Bool) (other : Option ℤ) → bytes_eq name take.task ≡ test → HasScratch inputs take
    → (other ≡ Some value → scratch_value inputs name ≡ Some value) → (if test then Some take.value else other) ≡ Some value → scratch_value inputs name ≡ Some value
value_by inputs take name value true other is has earlier e =
    let same : name ≡ take.task = (bytes_eq-Decides name take.task).0 is in
    ap (scratch_value inputs) same ∙ ap (option_map value_of) has.1 ∙ e
value_by inputs take name value false other is has earlier e = earlier e

-- a value that was given for a name is that from scratch
pub given_scratch : (inputs : Record) (earlier : List Take) (name : List ℕ) (value : ℤ) → AreScratch inputs earlier → given earlier name ≡ Some value → scratch_value inputs name ≡ Some value
given_scratch inputs [] name value all e = cc
given_scratch inputs (take ∷ earlier) name value all e =
    value_by inputs take name value (bytes_eq name take.task) (given earlier name) refl all.0 (given_scratch inputs earlier name value all.1) e

-- so are all the values that were given for names
values_scratch : (inputs : Record) (earlier : List Take) (names : List (List ℕ)) (values : List ℤ) → AreScratch inputs earlier
    → map (given earlier) names ≡ map (λ value. Some value) values → map (scratch_value inputs) names ≡ map (λ value. Some value) values
values_scratch inputs earlier [] [] all e = refl
values_scratch inputs earlier [] (value ∷ values) all e = cc
values_scratch inputs earlier (name ∷ names) [] all e = cc
values_scratch inputs earlier (name ∷ names) (value ∷ values) all e =
    let first : given earlier name ≡ Some value = cc in
    let others : map (given earlier) names ≡ map (λ value. Some value) values = cc in
    let one = given_scratch inputs earlier name value all first in
    let rest = values_scratch inputs earlier names values all others in
    λ i. one i ∷ rest i

filter_somes : (inputs : Record) (names : List (List ℕ)) (values : List ℤ) → map (scratch_value inputs) names ≡ map (λ value. Some value) values → filter_map (scratch_value inputs) names ≡ values
filter_somes inputs [] [] e = refl
filter_somes inputs [] (value ∷ values) e = cc
filter_somes inputs (name ∷ names) [] e = cc
filter_somes inputs (name ∷ names) (value ∷ values) e =
    let first : scratch_value inputs name ≡ Some value = cc in
    let others : map (scratch_value inputs) names ≡ map (λ value. Some value) values = cc in
    rw first (ap (λ vs. value ∷ vs) (filter_somes inputs names values others))

scratch_values_are : (inputs : Record) (task : List ℕ) (values : List ℤ) → map (scratch_value inputs) (input_names inputs.files task) ≡ map (λ value. Some value) values
    → scratch_values inputs task ≡ values
unfolding scratch_values
scratch_values_are inputs task values e = filter_somes inputs (input_names inputs.files task) values e

-- the outcome of a body over the values from scratch
body_over : (inputs : Record) (body : Body) (values : List ℤ) → map (scratch_value inputs) (map (λ input. input ∷ []) (inputs_of body)) ≡ map (λ value. Some value) values
    → outcome_of body (λ input. scratch inputs (input ∷ [])) ≡ Some (Returns (result_of body (slice_get values 0)) [])
body_over inputs (Constant constant) [] e = refl
body_over inputs (Constant constant) (value ∷ values) e = cc
body_over inputs (Linked input operation constant) [] e = cc
body_over inputs (Linked input operation constant) (value ∷ values) e =
    let first : scratch_value inputs (input ∷ []) ≡ Some value = cc in
    by (scratch inputs (input ∷ [])) first where
      by : (o : Option Outcome) → option_map value_of o ≡ Some value
          → option_map (λ outcome. Returns (result_of (Linked input operation constant) (Some (value_of outcome))) []) o ≡ Some (Returns (result_of (Linked input operation constant) (Some value)) [])
      by None e = cc
      by (Some outcome) e = ap (λ given. option_map (λ v. Returns (result_of (Linked input operation constant) (Some v)) []) given) e

pub known : (files : Files) (task : List ℕ) (values : List ℤ) (outcome : Outcome) (found : Option TaskFile)
    → option_map (λ (file : TaskFile). Returns (result_of file.body (slice_get values 0)) []) found ≡ Some outcome → (file : TaskFile) × (found ≡ Some file)
known files task values outcome None e = cc
known files task values outcome (Some file) e = (file, refl)

scratch_over : (inputs : Record) (task : List ℕ) (values : List ℤ) (outcome : Outcome) → refusal_of_build inputs.files ≡ None
    → outcome_over inputs.files task values ≡ Some outcome → map (scratch_value inputs) (input_names inputs.files task) ≡ map (λ value. Some value) values
    → scratch inputs task ≡ Some outcome
scratch_over inputs task values outcome accepted over e =
    let own = known inputs.files task values outcome (task_in inputs.files task) over in
    let names : map (scratch_value inputs) (map (λ input. input ∷ []) (inputs_of own.0.body)) ≡ map (λ value. Some value) values = rw own.1 at e in
    let body : Some (Returns (result_of own.0.body (slice_get values 0)) []) ≡ Some outcome = rw own.1 at over in
    task-scratch inputs task own.0 accepted own.1 ∙ body_over inputs own.0.body values names ∙ body

-- the outcome of a take, from scratch
take_scratch : (files : Files) (runs all : List Run) (lost : List (List ℕ)) (inputs : Record) (task : List ℕ) (outcome : Outcome) (found : FoundEntry) (value : ℤ)
    → Stands files (rows_of runs) lost → Clean (flat_map texts all) → Contains all (record { inputs = inputs; task = task }) → ((run : Run) → Contains runs run → Contains all run)
    → IsDigested inputs task (scratch_values inputs task) → scratch inputs task ≡ Some outcome
    → Why files task (input_hash inputs task (scratch_values inputs task)) found
    → IsGivenBy (Some files) task found outcome value
    → (log : List (List ℕ)) × (scratch inputs task ≡ Some (Returns value log))
take_scratch files runs all lost inputs task outcome Missing value stands clean here more digested is why gives = (gives.0, is ∙ ap (λ o. Some o) gives.1)
take_scratch files runs all lost inputs task outcome (Other d) value stands clean here more digested is why gives = (gives.0, is ∙ ap (λ o. Some o) gives.1)
take_scratch files runs all lost inputs task outcome (Same d) value stands clean here more digested is why gives =
    let entry = gives.0 in
    let found = stands.entries task entry gives.1.reads in
    let own = run_of_row runs found.0 found.1 in
    let run : Run = own.run in
    let this : Run = record { inputs = inputs; task = task } in
    let same_task : run.task ≡ task = sym own.task ∙ sym found.2.task ∙ gives.1.reads.own in
    let hash : input_hash inputs task (scratch_values inputs task) ≡ input_hash run.inputs run.task (scratch_values run.inputs run.task) = sym why.0 ∙ sym gives.2 ∙ found.2.input ∙ own.input in
    let same = same_scratch all this run clean here (more run own.among) digested (sym same_task) hash in
    let shorts : int own.number ≡ int value = sym (holds_int own.number) ∙ ap as_short (sym (found.2.value ∙ own.value)) ∙ gives.1.holds in
    let values : own.number ≡ value = cc in
    (own.log, same ∙ own.returns ∙ ap (λ v. Some (Returns v own.log)) values)

one_scratch : (files : Files) (runs all : List Run) (lost : List (List ℕ)) (inputs : Record) (numbers : Numbers) (earlier : List Take) (take : Take) → refusal_of_build inputs.files ≡ None
    → Stands files (rows_of runs) lost → Clean (flat_map texts all) → Contains all (record { inputs = inputs; task = take.task }) → ((run : Run) → Contains runs run → Contains all run)
    → IsGiven inputs numbers (Some files) earlier take → AreScratch inputs earlier → HasScratch inputs take
one_scratch files runs all lost inputs numbers earlier take accepted stands clean here more given scratches =
    let task = take.task in
    let from : map (scratch_value inputs) (input_names inputs.files task) ≡ map (λ value. Some value) given.values = values_scratch inputs earlier (input_names inputs.files task) given.values scratches given.values_are in
    let values : given.values ≡ scratch_values inputs task = sym (scratch_values_are inputs task given.values from) in
    let is = scratch_over inputs task given.values given.outcome accepted given.outcome_is from in
    let digested = subst (IsDigested inputs task) values given.digested in
    let why = subst (λ vs. Why files task (input_hash inputs task vs) take.found) values given.is_take.why in
    take_scratch files runs all lost inputs task given.outcome take.found take.value stands clean here more digested is why given.is_take.value

-- the values of takes are those from scratch
pub all_scratch : (files : Files) (runs all : List Run) (lost : List (List ℕ)) (inputs : Record) (numbers : Numbers) (done : List Take) → refusal_of_build inputs.files ≡ None
    → Stands files (rows_of runs) lost → Clean (flat_map texts all) → AllByRecursion (λ task. Contains all (record { inputs = inputs; task = task })) (map task_of done)
    → ((run : Run) → Contains runs run → Contains all run) → AreGiven inputs numbers (Some files) done → AreScratch inputs done
all_scratch files runs all lost inputs numbers [] accepted stands clean here more given = tt
all_scratch files runs all lost inputs numbers (take ∷ earlier) accepted stands clean here more given =
    let scratches = all_scratch files runs all lost inputs numbers earlier accepted stands clean here.1 more given.1 in
    (one_scratch files runs all lost inputs numbers earlier take accepted stands clean here.0 more given.0 scratches, scratches)

-- the values behind an input hash of a take are those from scratch
pub input_scratch : (inputs : Record) (numbers : Numbers) (content : Option Files) (earlier : List Take) (take : Take) → IsGiven inputs numbers content earlier take → AreScratch inputs earlier
    → take.input ≡ input_hash inputs take.task (scratch_values inputs take.task)
input_scratch inputs numbers content earlier take given scratches =
    let task = take.task in
    let from = values_scratch inputs earlier (input_names inputs.files task) given.values scratches given.values_are in
    given.is_take.input_is ∙ ap (input_hash inputs task) (sym (scratch_values_are inputs task given.values from))
