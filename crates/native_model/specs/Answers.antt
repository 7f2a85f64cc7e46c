-- What a native answers.
use Rattle.std.specs.Prelude.{ℕ, zero, suc, ◌+◌, ℤ, pos, Bool, true, false, List, [], ◌∷◌, ◌++◌, codes, Option, Some, None, if◌then◌else◌}
use Rattle.jvm_tables.specs.declared.natives.Callback.{Callback}
use Rattle.jvm_tables.specs.Callbacks.{called_back}
use Rattle.jvm_tables.specs.Externals.{Method}
use Rattle.class_model.specs.declared.identifiers.MemberRef.{MemberRef}
use Rattle.jvm_heap.specs.declared.slot.Slot.{Slot}
use Rattle.jvm_heap.specs.declared.slot.Slot.TheVariants.{Int, Long, Ref}
use Rattle.jvm_heap.specs.Objects.{text}
use Rattle.jvm_heap.specs.Heaps.{allocated}
use Rattle.native_model.specs.declared.budget.Budget.{Budget}
use Rattle.native_model.specs.declared.budget.Budget.TheVariants.{Cells}
use Rattle.native_model.specs.Thrown.{Thrown, incompatible_change}
use Rattle.native_model.specs.Worlds.{NamedObject, NamedHeap, World, with_heap, Reference, as_text, seen}

-- It gives a value or none and leaves a world; it throws; it calls a method on values, the receiver first, and goes on with
-- its answer; it needs a file of a tree, or the names of its files; or a budget is spent.
pub data Answer : Type 0 where
  gives : Option Slot → World → Answer
  throws : Thrown → Answer
  calls_back : MemberRef → List Slot → Answer
  needs_file : Reference → List ℕ → Answer
  needs_names : Reference → Answer
  spends : Budget → Answer

-- what the last callback gave, or what was asked for
pub data Last : Type 0 where
  nothing : Last
  value : Slot → Last
  file : Option (List ℕ) → Last
  names : List (List ℕ) → Last

-- How far a native is: what its callbacks before the last gave, how many were answered, and what came last.
pub record Progress : Type 0 where
  pub given : List Slot
  pub answered : ℕ
  pub last : Last

abbrev pub begun : Progress
begun = record { given = []; answered = 0; last = nothing }

abbrev pub last_value : Last → List Slot
last_value (value slot) = slot ∷ []
last_value _ = []

-- what its callbacks gave, in order
abbrev pub results : Progress → List Slot
results p = p.given ++ last_value p.last

abbrev pub first_of : List Slot → Option Slot
first_of [] = None
first_of (slot ∷ slots) = Some slot

abbrev pub last_of : Option Slot → Last
last_of None = nothing
last_of (Some slot) = value slot

-- one callback more is answered
abbrev pub after_callback : Option Slot → Progress → Progress
after_callback answer p = record { given = results p; answered = p.answered + 1; last = last_of answer }

-- what was needed is there
abbrev pub supplied : Last → Progress → Progress
supplied last p = record { given = results p; answered = p.answered + 1; last = last }

abbrev pub gives_nothing : World → Answer
gives_nothing w = gives None w

abbrev pub gives_int : ℤ → World → Answer
gives_int n w = gives (Some (Int n)) w

abbrev pub truth : Bool → ℤ
truth b = if b then pos 1 else pos 0

abbrev pub gives_truth : Bool → World → Answer
gives_truth b w = gives_int (truth b) w

abbrev pub gives_long : ℤ → World → Answer
gives_long n w = gives (Some (Long n)) w

abbrev pub gives_reference : ℕ → World → Answer
gives_reference n w = gives (Some (Ref n)) w

-- an object that was made, where the cells suffice
abbrev pub gives_made : World → Option (ℕ × NamedHeap) → Answer
gives_made w None = spends Cells
gives_made w (Some made) = gives_reference made.0 (with_heap made.1 w)

-- a text of its own, the empty one too
abbrev pub gives_text : List ℕ → World → Answer
gives_text units w = gives_made w (allocated (text units) w.heap)

-- a value in another heap, where the cells suffice
abbrev pub gives_within : Option Slot → World → Option NamedHeap → Answer
gives_within slot w None = spends Cells
gives_within slot w (Some heap) = gives slot (with_heap heap w)

-- an object of another class than the native names
abbrev pub or_mismatch : {A : Type 0} → Option A → (A → Answer) → Answer
or_mismatch None next = throws incompatible_change
or_mismatch (Some a) next = next a

-- an object of one kind by number
abbrev pub on : {A : Type 0} → (NamedObject → Option A) → ℕ → World → (A → Answer) → Answer
on what n w next = or_mismatch (seen what n w) next

-- the method that is called back
abbrev pub as_member : Method → MemberRef
as_member m = record { owner = m.class; name = m.name; descriptor = m.descriptor }

abbrev pub calls : Callback → List Slot → Answer
calls callback slots = calls_back (as_member (called_back callback)) slots

-- the text that a callback gave, which prints as `null` where it is null
abbrev pub text_given : Slot → World → Option (List ℕ)
text_given (Ref zero) w = Some (codes "null")
text_given (Ref (suc n)) w = seen as_text (suc n) w
text_given _ w = None

-- a value that was given is another number than 0
abbrev pub is_true : Slot → Bool
is_true (Int (pos zero)) = false
is_true _ = true
