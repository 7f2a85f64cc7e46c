use Rattle.std.proofs.Common.{◌≡◌, drop}
use Rattle.class_code.specs.Codes.{code_in}
use Rattle.class_code.proofs.code.code_of.Given as goal

abbrev pub invariant-loop-attribute : goal.invariant-loop-attribute
invariant-loop-attribute l = code_in (drop l.attribute-index l.attributes) ≡ code_in l.attributes
