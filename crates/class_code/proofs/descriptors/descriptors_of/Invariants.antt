use Rattle.std.proofs.Common.{◌≡◌, take, map, option_map}
use Rattle.class_model.specs.Constants.{text_of}
use Rattle.class_code.specs.Descriptors.{told_by}
use Rattle.class_code.proofs.descriptors.descriptors_of.Given as goal

abbrev pub invariant-loop-constant : goal.invariant-loop-constant
invariant-loop-constant l = l.found ≡ map (λ c. option_map told_by (text_of c)) (take l.constant-index l.pool.constants)
