-- What the places are called by which the code tells classes, members and call sites, and what waits for a class.
use Rattle.std.specs.Prelude.{ℕ, List}
use Rattle.class_model.specs.declared.identifiers.ClassId.{ClassId}
use Rattle.class_model.specs.declared.identifiers.MemberId.{MemberId}
use Rattle.class_model.specs.declared.identifiers.MemberRef.{MemberRef}
use Rattle.class_model.specs.declared.identifiers.SiteId.{SiteId}
use Rattle.jvm_heap.specs.declared.slot.Slot.{Slot}
use Rattle.native_model.specs.Worlds.{Origin}
use Rattle.jvm_model.specs.States as states
use Rattle.jvm_state.specs.declared.called.Called.{Called}
use Rattle.jvm_state.specs.declared.called.Called.TheVariants as called
use Rattle.jvm_state.specs.declared.pending.Pending.{Pending}
use Rattle.jvm_state.specs.declared.pending.Pending.TheVariants as pending

pub record Names : Type 0 where
  pub class : ClassId → List ℕ
  pub method : MemberId → MemberRef
  pub field : MemberId → MemberRef
  pub lambda : SiteId → Origin
  pub concatenation : SiteId → states.Called

abbrev pub names : (ClassId → List ℕ) → (MemberId → MemberRef) → (MemberId → MemberRef) → (SiteId → Origin) → (SiteId → states.Called) → Names
names class method field lambda concatenation =
    record { class = class; method = method; field = field; lambda = lambda; concatenation = concatenation }

abbrev pub called_of : Names → Called → states.Called
called_of n (called.Native at) = states.native at
called_of n (called.Concatenation site) = n.concatenation site

-- the object of an `<init>` that a lambda's site names
abbrev pub constructed : Origin → List Slot → states.Pending
constructed o slots = states.constructs o.site.implementing.member.owner o.site.implementing.member o.caller slots

abbrev pub pending_of : Names → Pending → states.Pending
pending_of n pending.Nothing = states.nothing
pending_of n (pending.Reads field) = states.reads (n.field field)
pending_of n (pending.Writes field slot) = states.writes (n.field field) slot
pending_of n (pending.Makes class) = states.makes (n.class class)
pending_of n (pending.Calls method flags slots) = states.calls (n.method method) flags slots
pending_of n (pending.Constructs site slots) = constructed (n.lambda site) slots
