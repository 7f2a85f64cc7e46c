use Rattle.std.proofs.Common.{◌≡◌, pos, take}
use Rattle.std.specs.Prelude.{fold}
use Rattle.std.specs.Int.{w32, int_wrapping_add, int_wrapping_mul}
use Rattle.native_text.proofs.comparing.hash_of.Given as goal

abbrev pub invariant-loop-unit : goal.invariant-loop-unit
invariant-loop-unit l = l.hash ≡ fold (λ h u. int_wrapping_add w32 (int_wrapping_mul w32 (pos 31) h) (pos u)) (pos 0) (take l.unit-index l.units)
