use Rattle.std.proofs.Common.{◌≡◌, take, map}
use Rattle.class_verify.specs.Floats.{has_float_arguments}
use Rattle.class_verify.proofs.constant_tables.float_arguments.Given as goal

abbrev pub invariant-loop-constant : goal.invariant-loop-constant
invariant-loop-constant l = l.found ≡ map (has_float_arguments l.class) (take l.constant-index l.class.pool.constants)
