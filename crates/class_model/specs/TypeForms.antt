-- The type that a form of the code stands for.
use Rattle.std.specs.Prelude.{ℕ, zero, suc, ◌+◌, ◌==◌, Bool, false, ◌&&◌, nat_le, sum_by, List, Option, Some, None, option_and_then, if◌then◌else◌}
use Rattle.std.specs.Str.{byte}
use Rattle.class_model.specs.declared.descriptor_text.TypeForm.{TypeForm}
use Rattle.class_model.specs.Descriptors.{FieldType, primitive, object, array, deeper, slots, is_return_descriptor}

-- an array of so many dimensions of a component
abbrev pub arrays : ℕ → FieldType → FieldType
arrays zero component = component
arrays (suc n) component = arrays n (array component)

abbrev pub component : TypeForm → FieldType
component form = if form.letter == byte "L" then object form.class.now else primitive form.letter

abbrev pub type_of : TypeForm → FieldType
type_of form = arrays form.dimensions (component form)

-- n more dimensions round a type that was read
unfoldable pub wrapped : ℕ → Option (FieldType × List ℕ) → Option (FieldType × List ℕ)
wrapped zero found = found
wrapped (suc n) found = wrapped n (option_and_then deeper found)

-- types that were read take, beside slots that are used, at most so many, and a result stands behind them
abbrev pub are_within : ℕ → ℕ → Option (List FieldType × List ℕ) → Bool
are_within most used None = false
are_within most used (Some found) = is_return_descriptor found.1 && nat_le (used + sum_by slots found.0) most
