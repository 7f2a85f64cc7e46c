use Rattle.std.proofs.Common.{◌≡◌, ◌≤◌, ◌-◌, length, take}
use Rattle.io_traits.specs.Streams.{Got}
use Rattle.mill_top.proofs.sending.send.Given as goal

abbrev pub invariant-loop-at : goal.invariant-loop-at
invariant-loop-at g l = record {
  within : l.at ≤ length l.bytes;
  got : Got (g.K.Sink.got l.initial.sink) (g.K.Sink.got l.sink) (take l.at l.bytes);
  later : g.K.Sink.faults l.initial.sink ≤ g.K.Sink.faults l.sink;
  kept : g.K.Sink.kept l.sink ≡ g.K.Sink.kept l.initial.sink;
  plan : g.K.Sink.plan l.sink ≡ g.K.Sink.plan l.initial.sink;
}

abbrev pub decreases-loop-at : goal.decreases-loop-at
decreases-loop-at g l = length l.bytes - l.at
