-- What the code's frames show.
use Rattle.std.specs.Prelude.{List, map, reverse}
use Rattle.class_model.specs.declared.identifiers.ClassId.{ClassId}
use Rattle.class_model.specs.declared.identifiers.MemberId.{MemberId}
use Rattle.class_model.specs.declared.identifiers.MemberRef.{MemberRef}
use Rattle.jvm_heap.specs.declared.frame.Frame as methods
use Rattle.native_model.specs.Ends.{progress_of}
use Rattle.jvm_heap.specs.declared.slot.Slot.{Slot}
use Rattle.native_model.specs.Worlds.{Origin}
use Rattle.jvm_model.specs.Plans.{Initialiser}
use Rattle.jvm_model.specs.States as states
use Rattle.jvm_model.specs.Lambdas.{adaptation_of}
use Rattle.jvm_state.specs.declared.called.NativeCall.{NativeCall}
use Rattle.jvm_state.specs.declared.called.Adaptation.{Adaptation}
use Rattle.jvm_state.specs.declared.called.Adaptation.TheVariants as adaptations
use Rattle.jvm_state.specs.declared.frame.Frame.{Frame}
use Rattle.jvm_state.specs.declared.frame.Frame.TheVariants as frames
use Rattle.jvm_state.specs.declared.frame.InitialisingFrame.{InitialisingFrame}
use Rattle.jvm_state.specs.Names.{Names, called_of, pending_of}

abbrev pub method_frame : (MemberId → MemberRef) → methods.Frame → states.MethodFrame
method_frame named f =
    record { method = named f.method; pc = f.pc; next = f.next; locals = f.locals; operands = f.operands }

abbrev pub native_frame : Names → NativeCall → states.NativeFrame
native_frame n f = record { called = called_of n f.called; arguments = f.arguments; progress = progress_of f.progress }

abbrev pub adaptation_seen : Names → Adaptation → states.Adaptation
adaptation_seen n (adaptations.GivesObject o) = states.gives_object o
adaptation_seen n (adaptations.Converts site) = adaptation_of (n.lambda site).site

-- The superinterfaces that are still to be initialised, the next one last.
abbrev pub initialising_frame : Names → (ClassId → Initialiser) → InitialisingFrame → states.InitialisingFrame
initialising_frame n initialiser i = record {
  class = n.class i.class;
  interfaces = reverse (map initialiser i.interfaces.items);
  has_method = i.has_method;
  pending = pending_of n i.pending;
}

abbrev pub forwarded : Origin → List Slot → states.Frame
forwarded o slots = states.forwarding (adaptation_of o.site) o.site.implementing.member slots

abbrev pub frame_of : Names → (ClassId → Initialiser) → Frame → states.Frame
frame_of n initialiser (frames.Method f) = states.of_method (method_frame n.method f)
frame_of n initialiser (frames.Native f) = states.of_native (native_frame n f)
frame_of n initialiser (frames.Forwarding site slots) = forwarded (n.lambda site) slots
frame_of n initialiser (frames.Adapting a) = states.adapting (adaptation_seen n a)
frame_of n initialiser (frames.Initialising i) = states.initialising (initialising_frame n initialiser i)
