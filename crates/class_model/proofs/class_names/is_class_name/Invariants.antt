use Rattle.std.proofs.Common.{◌≡◌, drop}
use Rattle.class_model.specs.ClassNames.{is_class_name}
use Rattle.class_model.proofs.ClassParts.{are_parts}
use Rattle.class_model.proofs.class_names.is_class_name.Given as goal

abbrev pub invariant-loop-byte : goal.invariant-loop-byte
invariant-loop-byte l = is_class_name l.name ≡ are_parts l.is_fresh (drop l.byte-index l.name)
