-- How objects change after they are made, and what the calls ensure that make, grow and change them.
use Rattle.std.specs.Prelude.{◌≡◌, ℕ, ℤ, nat_lt, List, [], ◌∷◌, ◌++◌, length, slice_set, Option, Some, None, option_and_then, option_map, if◌then◌else◌, Result, IfOk, OnOk, OnErr, IsErrOf, ◌↔◌, IsSome}
use Rattle.jvm_heap.specs.declared.fault.HeapFault.{HeapFault}
use Rattle.jvm_heap.specs.declared.fault.HeapFault.TheVariants as faults
use Rattle.jvm_heap.specs.Objects.{Object, throwable, enumerated, listed, builder, iterator}
use Rattle.jvm_heap.specs.Heaps.{Heap, object_at, replaced, grown}

-- a list with one element more, at its end
abbrev pub with_last : {C S : Type 0} → ℕ → Object C S → Option (Object C S)
with_last element (listed class elements) = Some (listed class (elements ++ element ∷ []))
with_last element _ = None

-- a list with another element at a place
abbrev pub with_element : {C S : Type 0} → ℕ → ℕ → Object C S → Option (Object C S)
with_element place element (listed class elements) =
    if nat_lt place (length elements) then Some (listed class (slice_set elements place element)) else None
with_element place element _ = None

-- a builder with units behind those that it has
abbrev pub with_units : {C S : Type 0} → List ℕ → Object C S → Option (Object C S)
with_units units (builder built) = Some (builder (built ++ units))
with_units units _ = None

-- an iterator at another element
abbrev pub with_next : {C S : Type 0} → ℕ → Object C S → Option (Object C S)
with_next next (iterator list passed) = Some (iterator list next)
with_next next _ = None

-- a throwable with its message and its cause, and an enum with its name and its ordinal
abbrev pub with_message : {C S : Type 0} → ℕ → ℕ → Object C S → Option (Object C S)
with_message message cause (throwable class fields text reason) = Some (throwable class fields message cause)
with_message message cause _ = None

abbrev pub with_name : {C S : Type 0} → ℕ → ℤ → Object C S → Option (Object C S)
with_name name ordinal (enumerated class fields text number) = Some (enumerated class fields name ordinal)
with_name name ordinal _ = None

-- there is an object of a number that has such a change
abbrev pub CanChange : {C S : Type 0} → (Object C S → Option (Object C S)) → ℕ → Heap C S → Type 0
CanChange change n h = IsSome (option_and_then change (object_at n h))

-- The object of a number changed. None where there is none, or none of that kind.
unfoldable pub changed : {C S : Type 0} → (Object C S → Option (Object C S)) → ℕ → Heap C S → Option (Heap C S)
changed change n h = option_map (λ o. replaced n o h) (option_and_then change (object_at n h))

-- the same of a change that costs so many cells more; None also where they would pass the limit
unfoldable pub enlarged : {C S : Type 0} → (Object C S → Option (Object C S)) → ℕ → ℕ → Heap C S → Option (Heap C S)
enlarged change n more h = option_and_then (λ o. grown n o more h) (option_and_then change (object_at n h))

-- What a call that makes an object does: it makes what is defined, or the limit forbids it, or memory is wanting. After
-- a refusal all is as before.
pub record Makes {C S : Type 0} (defined : Option (ℕ × Heap C S)) (result : Result ℕ HeapFault) (old new : Heap C S) : Type 0 where
  pub made : IfOk result (λ number. defined ≡ Some (number, new))
  pub full : IsErrOf result faults.Full ↔ (defined ≡ None)
  pub kept : OnErr result (new ≡ old)

-- the same of a call that makes one larger
pub record Enlarges {C S : Type 0} (defined : Option (Heap C S)) (result : Result Unit HeapFault) (old new : Heap C S) : Type 0 where
  pub done : OnOk result (defined ≡ Some new)
  pub full : IsErrOf result faults.Full ↔ (defined ≡ None)
  pub kept : OnErr result (new ≡ old)
