use Rattle.std.proofs.Common.{◌≡◌, length}
use Rattle.jvm_model.specs.Plans.{end_of}
use Rattle.jvm_model.specs.Frames.{unwound}
use Rattle.jvm_invoke.proofs.unwinding.unwind.Given as goal

abbrev pub invariant-leaving : goal.invariant-leaving
invariant-leaving g l = record {
  leads : end_of (g.P.Lookups.oracle l.fn.machine.program) (unwound l.fn.machine.state.frames l.fn.machine.state.shared l.fn.exception (g.P.Naming.class_name l.fn.machine.program l.fn.class))
      ≡ end_of (g.P.Lookups.oracle l.fn.machine.program) (unwound l.machine.state.frames l.machine.state.shared l.thrown (g.P.Naming.class_name l.fn.machine.program l.of));
  program : l.machine.program ≡ l.fn.machine.program;
}

abbrev pub decreases-leaving : goal.decreases-leaving
decreases-leaving g l = length l.machine.state.frames
