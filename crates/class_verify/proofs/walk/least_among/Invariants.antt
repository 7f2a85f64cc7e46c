use Rattle.std.proofs.Common.{take}
use Rattle.class_verify.specs.Walks.{IsLeastStray}
use Rattle.class_verify.proofs.walk.least_among.Given as goal

abbrev pub invariant-loop-frame : goal.invariant-loop-frame
invariant-loop-frame l = IsLeastStray l.body.code.now (take l.frame-index l.frames) l.least
