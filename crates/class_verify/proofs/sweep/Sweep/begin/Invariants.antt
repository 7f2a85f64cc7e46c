use Rattle.std.proofs.Common.{◌≡◌, ◌-◌, length}
use Rattle.class_verify.specs.Ready.{plain}
use Rattle.class_verify.specs.Sweeps.{IsSettled}
use Rattle.class_verify.proofs.sweep.Sweep.begin.Given as goal

abbrev pub invariant-loop-range : goal.invariant-loop-range
invariant-loop-range l = record {
  met : IsSettled (plain l.body) l.self l.pc l.locals;
  same : l.self.ranges ≡ l.initial.self.ranges;
}

abbrev pub decreases-loop-range : goal.decreases-loop-range
decreases-loop-range l = length l.initial.self.ranges.items - l.self.begun
