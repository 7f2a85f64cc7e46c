use Rattle.std.proofs.Common.{take}
use Rattle.std.specs.Prelude.{All}
use Rattle.class_model.specs.Shape.{Shaped}
use Rattle.class_read.specs.ClassFiles.{AreClassesOf}
use Rattle.class_read.proofs.loading.classes_in.Given as goal

abbrev pub invariant-loop-file : goal.invariant-loop-file
invariant-loop-file l = record { read : AreClassesOf (take l.file-index l.files) l.classes.items; shaped : All Shaped l.classes.items }
