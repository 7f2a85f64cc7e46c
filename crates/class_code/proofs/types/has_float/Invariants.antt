use Rattle.std.proofs.Common.{◌≡◌, false, drop}
use Rattle.class_code.specs.Types.{float_after}
use Rattle.class_code.proofs.types.has_float.Given as goal

abbrev pub invariant-loop-byte : goal.invariant-loop-byte
invariant-loop-byte l = float_after false l.descriptor ≡ float_after l.in_name (drop l.byte-index l.descriptor)
