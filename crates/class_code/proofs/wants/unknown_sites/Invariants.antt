use Rattle.std.proofs.Common.{◌≡◌, take, map}
use Rattle.jvm_tables.specs.declared.instruction.ConstantUse.TheVariants.{CallSite}
use Rattle.class_code.specs.Sites.{unknown_by}
use Rattle.class_code.proofs.wants.unknown_sites.Given as goal

abbrev pub invariant-loop-constant : goal.invariant-loop-constant
invariant-loop-constant l = l.found ≡ map (unknown_by CallSite l.class) (take l.constant-index l.class.pool.constants)
