use Rattle.std.proofs.Common.{take}
use Rattle.std.specs.Prelude.{All}
use Rattle.class_verify.specs.Verified.{Fits}
use Rattle.class_verify.proofs.program_ok.verify_all.Given as goal

abbrev pub invariant-loop-class : goal.invariant-loop-class
invariant-loop-class l = All Fits (take l.class-index l.classes)
