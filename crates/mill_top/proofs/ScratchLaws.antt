-- Laws of evaluation from scratch.
use Rattle.std.proofs.Common.{◌≡◌, ℕ, ℤ, zero, suc, FitsSigned, pos, ◌+ℤ◌, ◌-ℤ◌, ◌*ℤ◌, unwrap_or, true, List, [], ◌∷◌, length, Option, Some, None, refl, sym, ap, subst, ◌∙◌}
use Rattle.std.specs.Int.{w32}
use Rattle.std.specs.Option.{option_map}
use Rattle.std.proofs.lemmas.Int.{SFits-int_wrap}
use Rattle.io_traits.specs.Files.{Files}
use Rattle.mill_top.specs.declared.operation.Operation.{Operation}
use Rattle.mill_top.specs.declared.operation.Operation.TheVariants.{Sum, Difference, Product}
use Rattle.mill_top.specs.declared.outcome.Outcome.{Outcome}
use Rattle.mill_top.specs.declared.outcome.Outcome.TheVariants.{Returns}
use Rattle.mill_top.specs.declared.recorded.Record.{Record}
use Rattle.mill_top.specs.declared.task_file.Body.{Body}
use Rattle.mill_top.specs.declared.task_file.Body.TheVariants.{Constant, Linked}
use Rattle.mill_top.specs.declared.task_file.TaskFile.{TaskFile}
use Rattle.mill_top.specs.Graphs.{file_with, build_graph, named, task_in, refusal_of_build}
use Rattle.mill_top.specs.Scratch.{apply, result_of, value_of, outcome_of, scratch_of, scratch_in, scratch}
use Rattle.mill_top.proofs.GraphLaws.{IsSound, sound}
use Rattle.mill_top.proofs.PlanLaws.{named-is}
use Rattle.mill_top.proofs.TaskLaws.{ConstantFits, known-within}
use Rattle.mill_top.proofs.WayLaws.{IsKind, absent, constant, linked, kind, inputs-linked, ends, ends-linked, ended}

-- the outcome of a task over those that its inputs have
scratch-file : (n : ℕ) (graph : List TaskFile) (task : ℕ) (file : TaskFile) → file_with graph task ≡ Some file
    → scratch_of (suc n) graph task ≡ outcome_of file.body (scratch_of n graph)
scratch-file n graph task file has = rw has refl

scratch-absent : (n : ℕ) (graph : List TaskFile) (task : ℕ) → file_with graph task ≡ None → scratch_of n graph task ≡ None
scratch-absent zero graph task has = refl
scratch-absent (suc n) graph task has = rw has refl

outcome-linked : (file : TaskFile) (input : ℕ) (operation : Operation) (value : ℤ) (ones others : ℕ → Option Outcome) → file.body ≡ Linked input operation value
    → ones input ≡ others input → outcome_of file.body ones ≡ outcome_of file.body others
outcome-linked file input operation value ones others body same =
    ap (λ (b : Body). outcome_of b ones) body
    ∙ ap (option_map (λ outcome. Returns (result_of (Linked input operation value) (Some (value_of outcome))) [])) same
    ∙ ap (λ (b : Body). outcome_of b others) (sym body)

outcome-constant : (file : TaskFile) (value : ℤ) (ones others : ℕ → Option Outcome) → file.body ≡ Constant value → outcome_of file.body ones ≡ outcome_of file.body others
outcome-constant file value ones others body = ap (λ (b : Body). outcome_of b ones) body ∙ ap (λ (b : Body). outcome_of b others) (sym body)

more-step : (n m : ℕ) (graph : List TaskFile) (task : ℕ) → ends (suc n) graph task ≡ true
    → ((input : ℕ) → ends n graph input ≡ true → scratch_of m graph input ≡ scratch_of n graph input) → IsKind graph task
    → scratch_of (suc m) graph task ≡ scratch_of (suc n) graph task
more-step n m graph task on further (absent has) = scratch-absent (suc m) graph task has ∙ sym (scratch-absent (suc n) graph task has)
more-step n m graph task on further (constant file value has body) =
    scratch-file m graph task file has
    ∙ outcome-constant file value (scratch_of m graph) (scratch_of n graph) body
    ∙ sym (scratch-file n graph task file has)
more-step n m graph task on further (linked file input operation value has body) =
    let is = inputs-linked graph task file input operation value has body in
    scratch-file m graph task file has
    ∙ outcome-linked file input operation value (scratch_of m graph) (scratch_of n graph) body (further input (sym (ends-linked n graph task input is) ∙ on))
    ∙ sym (scratch-file n graph task file has)

-- where the way from a task ends, one more task on it changes nothing
scratch-more : (n : ℕ) (graph : List TaskFile) (task : ℕ) → ends n graph task ≡ true → scratch_of (suc n) graph task ≡ scratch_of n graph task
scratch-more zero graph task on = cc
scratch-more (suc n) graph task on = more-step n (suc n) graph task on (scratch-more n graph) (kind graph task)

-- the outcome of a task is that of its body over the outcomes of its inputs
graph-scratch : (graph : List TaskFile) (task : ℕ) (file : TaskFile) → IsSound graph → file_with graph task ≡ Some file
    → scratch_of (length graph) graph task ≡ outcome_of file.body (scratch_of (length graph) graph)
graph-scratch graph task file is_sound has =
    sym (scratch-more (length graph) graph task (ended graph task file is_sound has)) ∙ scratch-file (length graph) graph task file has

pub task-scratch : (inputs : Record) (task : List ℕ) (file : TaskFile) → refusal_of_build inputs.files ≡ None → task_in inputs.files task ≡ Some file
    → scratch inputs task ≡ outcome_of file.body (λ input. scratch inputs (input ∷ []))
unfolding scratch
task-scratch inputs task file accepted e =
    let graph = build_graph inputs.files in
    let own = named-is graph task file e in
    ap (scratch inputs) own.0 ∙ graph-scratch graph file.task file (sound inputs.files accepted) own.1

named-absent : (graph : List TaskFile) (task : List ℕ) → named graph task ≡ None → scratch_in graph task ≡ None
named-absent graph [] e = refl
named-absent graph (task ∷ []) e = scratch-absent (length graph) graph task e
named-absent graph (task ∷ next ∷ rest) e = refl

pub absent-scratch : (inputs : Record) (task : List ℕ) → task_in inputs.files task ≡ None → scratch inputs task ≡ None
unfolding scratch
absent-scratch inputs task e = named-absent (build_graph inputs.files) task e

returns-by : (input : ℕ) (operation : Operation) (value : ℤ) (given : Option Outcome) → (own : Outcome) × (given ≡ Some own)
    → (outcome : Outcome) × (option_map (λ (o : Outcome). Returns (result_of (Linked input operation value) (Some (value_of o))) []) given ≡ Some outcome)
returns-by input operation value given (own, is) =
    (Returns (result_of (Linked input operation value) (Some (value_of own))) [], ap (option_map (λ (o : Outcome). Returns (result_of (Linked input operation value) (Some (value_of o))) [])) is)

returns-step : (n : ℕ) (graph : List TaskFile) (task : ℕ) (file : TaskFile) → IsSound graph → file_with graph task ≡ Some file → ends (suc n) graph task ≡ true
    → ((input : ℕ) (own : TaskFile) → file_with graph input ≡ Some own → ends n graph input ≡ true → (outcome : Outcome) × (scratch_of n graph input ≡ Some outcome))
    → IsKind graph task → (outcome : Outcome) × (scratch_of (suc n) graph task ≡ Some outcome)
returns-step n graph task file is_sound known on further (absent has) = cc
returns-step n graph task file is_sound known on further (constant own value has body) =
    (Returns (result_of (Constant value) None) [], scratch-file n graph task own has ∙ ap (λ (b : Body). outcome_of b (scratch_of n graph)) body)
returns-step n graph task file is_sound known on further (linked own input operation value has body) =
    let is = inputs-linked graph task own input operation value has body in
    let at = is_sound.linked task own input operation value has body in
    let outcome = returns-by input operation value (scratch_of n graph input) (further input at.0 at.1 (sym (ends-linked n graph task input is) ∙ on)) in
    (outcome.0, scratch-file n graph task own has ∙ ap (λ (b : Body). outcome_of b (scratch_of n graph)) body ∙ outcome.1)

graph-returns : (n : ℕ) (graph : List TaskFile) (task : ℕ) (file : TaskFile) → IsSound graph → file_with graph task ≡ Some file → ends n graph task ≡ true
    → (outcome : Outcome) × (scratch_of n graph task ≡ Some outcome)
graph-returns zero graph task file is_sound known on = cc
graph-returns (suc n) graph task file is_sound known on =
    returns-step n graph task file is_sound known on (λ input own has rest. graph-returns n graph input own is_sound has rest) (kind graph task)

-- a known task has an outcome
pub known-scratch : (inputs : Record) (task : List ℕ) (file : TaskFile) → refusal_of_build inputs.files ≡ None → task_in inputs.files task ≡ Some file
    → (outcome : Outcome) × (scratch inputs task ≡ Some outcome)
unfolding scratch
known-scratch inputs task file accepted e =
    let graph = build_graph inputs.files in
    let own = named-is graph task file e in
    let is_sound = sound inputs.files accepted in
    let outcome = graph-returns (length graph) graph file.task file is_sound own.1 (ended graph file.task file is_sound own.1) in
    (outcome.0, ap (scratch inputs) own.0 ∙ outcome.1)
