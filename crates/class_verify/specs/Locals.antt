-- Locals, which are slots from 0 on.
use Rattle.std.specs.Prelude.{ℕ, zero, suc, ◌+◌, nat_lt, Bool, false, List, length, slice_get, slice_set, Option, Some, None, if◌then◌else◌}
use Rattle.jvm_tables.specs.declared.instruction.ValueKind.{ValueKind}
use Rattle.jvm_tables.specs.declared.instruction.ValueKind.TheVariants as values
use Rattle.class_verify.specs.declared.kinds.Kind.{Kind}
use Rattle.class_verify.specs.declared.kinds.Kind.TheVariants as kinds
use Rattle.class_verify.specs.Kinds.{is_kind}

abbrev pub is_some_kind : Kind → Option Kind → Bool
is_some_kind wanted None = false
is_some_kind wanted (Some kind) = is_kind wanted kind

-- a value of a kind begins at a local
abbrev pub holds : ValueKind → ℕ → List Kind → Bool
holds values.Int at locals = is_some_kind kinds.Int (slice_get locals at)
holds values.Long at locals = is_some_kind kinds.Long (slice_get locals at)
holds values.Reference at locals = is_some_kind kinds.Reference (slice_get locals at)

-- A long whose second slot is written is none any more.
abbrev pub without_long_before : ℕ → List Kind → List Kind
without_long_before zero locals = locals
without_long_before (suc n) locals =
    if is_some_kind kinds.Long (slice_get locals n) then slice_set locals n kinds.Top else locals

-- one slot is written
abbrev pub with_kind : Kind → ℕ → List Kind → Option (List Kind)
with_kind kind at locals =
    if nat_lt at (length locals) then Some (slice_set (without_long_before at locals) at kind) else None

abbrev pub with_long : ℕ → List Kind → Option (List Kind)
with_long at locals =
    if nat_lt (at + 1) (length locals)
    then Some (slice_set (slice_set (without_long_before at locals) at kinds.Long) (at + 1) kinds.Top)
    else None

-- the locals behind a store of a value
abbrev pub stored : ValueKind → ℕ → List Kind → Option (List Kind)
stored values.Int = with_kind kinds.Int
stored values.Long = with_long
stored values.Reference = with_kind kinds.Reference
