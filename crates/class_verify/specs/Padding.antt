-- Locals of which the last are Top.
use Rattle.std.specs.Prelude.{ℕ, ◌+◌, ◌-◌, List, ◌++◌, length, replicate, slice_set}
use Rattle.class_verify.specs.declared.kinds.Kind.{Kind}
use Rattle.class_verify.specs.declared.kinds.Kind.TheVariants as kinds
use Rattle.class_verify.specs.Locals.{without_long_before}

-- locals up to the last, the others being Top
abbrev pub padded : ℕ → List Kind → List Kind
padded most slots = slots ++ replicate (most - length slots) kinds.Top

-- a slot is written, up to which they are padded
unfoldable pub kind_written : Kind → ℕ → List Kind → List Kind
kind_written kind at slots = slice_set (without_long_before at (padded (at + 1) slots)) at kind

unfoldable pub long_written : ℕ → List Kind → List Kind
long_written at slots =
    slice_set (slice_set (without_long_before at (padded (at + 2) slots)) at kinds.Long) (at + 1) kinds.Top
