-- What the code's values say: how far a native is, what it answers, and what it throws.
use Rattle.std.specs.Prelude.{◌≡◌, ℕ, Bool, true, false, List, [], ◌∷◌, ◌++◌, length, codes, Option, Some, None, Result, Ok, Err, IfOk, OnErr}
use Rattle.class_model.specs.declared.identifiers.ClassId.{ClassId}
use Rattle.class_model.specs.declared.identifiers.SiteId.{SiteId}
use Rattle.jvm_heap.specs.Objects.{builder}
use Rattle.jvm_heap.specs.Heaps.{Heap, grown}
use Rattle.jvm_heap.specs.Renaming.{renamed}
use Rattle.jvm_heap.specs.declared.fault.HeapFault.{HeapFault}
use Rattle.jvm_heap.specs.declared.fault.HeapFault.TheVariants as heap_faults
use Rattle.jvm_heap.specs.declared.content.PathReference.{PathReference}
use Rattle.jvm_heap.specs.declared.slot.Slot.{Slot}
use Rattle.jvm_heap.specs.declared.slot.Slot.TheVariants.{Ref}
use Rattle.native_model.specs.declared.budget.Budget.{Budget}
use Rattle.native_model.specs.declared.budget.Budget.TheVariants.{Cells}
use Rattle.native_model.specs.declared.fault.StepFault.{StepFault}
use Rattle.native_model.specs.declared.fault.StepFault.TheVariants as faults
use Rattle.native_model.specs.declared.throw.Throw.{Throw}
use Rattle.native_model.specs.declared.throw.Throw.TheVariants as throws
use Rattle.native_model.specs.declared.throw.Denial.{Denial}
use Rattle.native_model.specs.declared.throw.Denial.TheVariants as denials
use Rattle.native_model.specs.declared.progress.Last.{Last}
use Rattle.native_model.specs.declared.progress.Last.TheVariants as lasts
use Rattle.native_model.specs.declared.progress.Progress.{Progress}
use Rattle.native_model.specs.declared.native_end.Handed.{Handed}
use Rattle.native_model.specs.declared.native_end.Handed.TheVariants as handed
use Rattle.native_model.specs.declared.native_end.NativeEnd.{NativeEnd}
use Rattle.native_model.specs.declared.native_end.NativeEnd.TheVariants as ends
use Rattle.native_model.specs.Worlds.{Origin, Surround, World, Placed, Reference, as_builder}
use Rattle.native_model.specs.Thrown as thrown
use Rattle.native_model.specs.Answers as answers

-- a world whose heap tells classes and sites by place
abbrev pub named_world : (ClassId → List ℕ) → (SiteId → Origin) → Heap ClassId SiteId → List (List ℕ × List ℕ) → List (List ℕ) → Option Surround → Option (List ℕ) → World
named_world f g heap dest log surround owner =
    record { heap = renamed f g heap; dest = dest; log = log; surround = surround; owner = owner }

-- what came last
abbrev pub last_of : Last → answers.Last
last_of lasts.Nothing = answers.nothing
last_of (lasts.Slot slot) = answers.value slot
last_of (lasts.File found) = answers.file found
last_of (lasts.Names paths) = answers.names paths

-- how far a native is
abbrev pub progress_of : Progress → answers.Progress
progress_of p = record { given = p.given; answered = p.answered; last = last_of p.last }

-- what access is denied to
abbrev pub denial_of : Denial → List ℕ
denial_of denials.Path = codes "path"
denial_of denials.Dest = codes "dest"
denial_of denials.Env = codes "env"

-- what is thrown, by its class and its message
abbrev pub thrown_of : Throw → thrown.Thrown
thrown_of throws.NullPointer = thrown.null_pointer
thrown_of throws.ClassCast = thrown.class_cast
thrown_of throws.IncompatibleChange = thrown.incompatible_change
thrown_of throws.Unsupported = thrown.unsupported
thrown_of throws.NoSuchElement = thrown.no_such_element
thrown_of throws.ArrayStore = thrown.array_store
thrown_of throws.AbstractMethod = thrown.abstract_method
thrown_of throws.UnsatisfiedLink = thrown.unsatisfied_link
thrown_of throws.Instantiation = thrown.instantiation
thrown_of throws.DivisionByZero = thrown.division_by_zero
thrown_of (throws.ListBounds index length) = thrown.list_bounds index length
thrown_of (throws.TextBounds index length) = thrown.text_bounds index length
thrown_of (throws.ArrayBounds index length) = thrown.array_bounds index length
thrown_of (throws.NegativeSize size) = thrown.negative_size size
thrown_of (throws.NumberFormat units) = thrown.number_format units
thrown_of (throws.AbsentClass name) = thrown.absent_class name
thrown_of (throws.AbsentMethod name) = thrown.absent_method name
thrown_of (throws.AbsentField name) = thrown.absent_field name
thrown_of (throws.Denied what) = thrown.denied (denial_of what)
thrown_of (throws.FileFault units) = thrown.file_fault units

-- references that a callback is given, the receiver first
abbrev pub slots_of : Handed → List Slot
slots_of (handed.One a) = Ref a ∷ []
slots_of (handed.Two a b) = Ref a ∷ Ref b ∷ []
slots_of (handed.Three a b c) = Ref a ∷ Ref b ∷ Ref c ∷ []

-- a reference by its parts
abbrev pub reference_of : PathReference → Reference
reference_of reference = record { owner = reference.owner; path = reference.path }

-- what a native answers, where it leaves a world
abbrev pub answer_of : NativeEnd → World → answers.Answer
answer_of (ends.Gives slot) w = answers.gives slot w
answer_of (ends.Throws what) w = answers.throws (thrown_of what)
answer_of (ends.CallsBack callback slots) w = answers.calls callback (slots_of slots)
answer_of (ends.NeedsFile reference path) w = answers.needs_file (reference_of reference) path
answer_of (ends.NeedsNames reference) w = answers.needs_names (reference_of reference)
answer_of (ends.Spends budget) w = answers.spends budget

-- what is answered where an object is made, or a list or builder made larger
abbrev pub end_of_making : Result ℕ HeapFault → Result NativeEnd StepFault
end_of_making (Ok number) = Ok (ends.Gives (Some (Ref number)))
end_of_making (Err heap_faults.Full) = Ok (ends.Spends Cells)
end_of_making (Err heap_faults.Memory) = Err faults.Memory

abbrev pub end_of_growing : Option Slot → Result Unit HeapFault → Result NativeEnd StepFault
end_of_growing slot (Ok done) = Ok (ends.Gives slot)
end_of_growing slot (Err heap_faults.Full) = Ok (ends.Spends Cells)
end_of_growing slot (Err heap_faults.Memory) = Err faults.Memory

-- what is answered where a file or a line is put; false where the bytes don't suffice
abbrev pub end_of_putting : {E : Type 0} → Budget → Result Bool E → Result NativeEnd StepFault
end_of_putting budget (Ok true) = Ok (ends.Gives None)
end_of_putting budget (Ok false) = Ok (ends.Spends budget)
end_of_putting budget (Err fault) = Err faults.Memory

-- units are put behind those of a builder, and then something is given
abbrev pub builder_enlarged : Option Slot → ℕ → List ℕ → World → answers.Answer
builder_enlarged slot b more w =
    answers.on as_builder b w (λ units. answers.gives_within slot w (grown b (builder (units ++ more)) (length more) w.heap))

-- what holds where nothing is given
abbrev pub UnlessGiven : NativeEnd → Type 0 → Type 0
UnlessGiven (ends.Gives slot) P = Unit {0}
UnlessGiven _ P = P

-- A native does what is defined, and where it gives nothing the world stays as it was; so it does after want of memory.
-- The names of classes and sites stay in any case.
pub record Answers {N : Type 0} (defined : answers.Answer) (result : Result NativeEnd StepFault) (old new : Placed N) : Type 0 where
  pub answer : IfOk result (λ end. defined ≡ answer_of end new.world)
  pub kept : IfOk result (λ end. UnlessGiven end (new.world ≡ old.world))
  pub unmade : OnErr result (new.world ≡ old.world)
  pub names : new.names ≡ old.names
