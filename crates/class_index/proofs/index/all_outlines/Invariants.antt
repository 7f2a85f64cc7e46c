use Rattle.std.proofs.Common.{◌≡◌, take, map}
use Rattle.class_index.specs.Outlines.{outline}
use Rattle.class_index.proofs.index.all_outlines.Given as goal

abbrev pub invariant-loop-class : goal.invariant-loop-class
invariant-loop-class l = l.all ≡ map outline (take l.class-index l.classes)
