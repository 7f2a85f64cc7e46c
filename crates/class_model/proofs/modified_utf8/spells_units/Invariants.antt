use Rattle.std.proofs.Common.{◌↔◌, length}
use Rattle.class_model.specs.ModifiedUtf8.{IsModifiedUtf8}
use Rattle.class_model.proofs.modified_utf8.spells_units.Given as goal

abbrev pub invariant-loop-rest : goal.invariant-loop-rest
invariant-loop-rest l = IsModifiedUtf8 l.bytes ↔ IsModifiedUtf8 l.rest

abbrev pub decreases-loop-rest : goal.decreases-loop-rest
decreases-loop-rest l = length l.rest
