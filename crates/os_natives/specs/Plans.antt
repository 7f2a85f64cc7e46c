-- What natives of files, of the log and of the environment do once they have read all that they need.
use Rattle.std.specs.Prelude.{◌++◌, ◌∷◌, [], ℕ, List, Option, Some, None, if◌then◌else◌, option_and_then}
use Rattle.std.specs.Str.{is_utf8}
use Rattle.std.specs.FinMap.Entries as entries
use Rattle.tree_value.specs.Trees.{path_cmp}
use Rattle.jvm_heap.specs.Objects.{path_reference}
use Rattle.jvm_heap.specs.Heaps.{allocated}
use Rattle.native_model.specs.Worlds.{Surround, World, Reference}
use Rattle.native_model.specs.Answers.{Answer, Progress, throws, gives_made, gives_text}
use Rattle.native_model.specs.Thrown.{file_fault}
use Rattle.native_model.specs.Outside.{on_place, or_denied, if_still_path, file_of, dest_put, logged, text_read, size_read, variable, gives_variable}
use Rattle.native_model.specs.Texts.{text_of_units, units_of_text}
use Rattle.native_model.specs.Paths.{path_of_units, joined}
use Rattle.native_model.specs.Ends.{answer_of}
use Rattle.os_natives.specs.declared.plan.Plan.{Plan}
use Rattle.os_natives.specs.declared.plan.Plan.TheVariants as plans
use Rattle.os_natives.specs.declared.reading.Wanted.{Wanted}
use Rattle.os_natives.specs.declared.reading.Wanted.TheVariants as wanted

abbrev pub planned : Plan → World → Answer
planned (plans.Ends end) w = answer_of end w
planned (plans.GivesText units) w = gives_text units w
planned (plans.GivesReference owner path) w = gives_made w (allocated (path_reference owner path) w.heap)
planned (plans.PutsFile path content) w = dest_put (entries.put path_cmp path content w.dest) w
planned (plans.PutsLine line) w = logged (w.log ++ line ∷ []) w

-- the units of bytes that are a text
abbrev pub text_if : List ℕ → Option (List ℕ)
text_if bytes = if is_utf8 bytes then Some (units_of_text bytes) else None

-- what is told of a file by its text, if it has one
abbrev pub told_by_text : List ℕ → World → Option (List ℕ) → Answer
told_by_text units w None = throws (file_fault units)
told_by_text units w (Some text) = gives_text text w

-- what is told of a file, by the units of its path and its bytes
abbrev pub told : Wanted → List ℕ → World → Option (List ℕ) → Answer
told wanted.Text units w found = text_read units w found
told wanted.Size units w found = size_read units w found

-- the file that a text names in the tree of a reference
abbrev pub file_read : Wanted → ℕ → ℕ → Progress → World → Answer
file_read which r s p w =
    on_place r s w (λ reference units. or_denied (path_of_units units) (λ path. file_of reference path p w (told which units w)))

-- a reference below another one
abbrev pub sub_of : Reference → List ℕ → World → Answer
sub_of reference units w =
    or_denied (option_and_then (λ path. if_still_path (joined reference.path path)) (path_of_units units))
    (λ path. gives_made w (allocated (path_reference reference.owner path) w.heap))

-- the variable that units name
abbrev pub variable_of : Surround → List ℕ → World → Answer
variable_of around units w = gives_variable w (option_and_then (variable around.environment) (text_of_units units))
