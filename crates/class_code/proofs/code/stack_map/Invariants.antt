use Rattle.std.proofs.Common.{◌≡◌, drop}
use Rattle.class_code.specs.Codes.{stack_map_in}
use Rattle.class_code.proofs.code.stack_map.Given as goal

abbrev pub invariant-loop-attribute : goal.invariant-loop-attribute
invariant-loop-attribute l = stack_map_in (drop l.attribute-index l.attributes) ≡ stack_map_in l.attributes
