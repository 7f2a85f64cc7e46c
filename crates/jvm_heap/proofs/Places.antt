-- What a change of the object at a number leaves. `k` is the heap as its parts show it, `m` the place of the object in its
-- list, `o` the object and `new` what it becomes.
use Rattle.std.proofs.Common.{◌≡◌, ℕ, suc, ◌+◌, ◌<◌, nat_le, true, false, length, slice_set, get_or, refl, sym, subst, ap, ◌∙◌, arith}
use Rattle.std.specs.Prelude.{slice_get, Option, Some, None, IsSome, is_some, Ok, Err, Result}
use Rattle.std.proofs.lemmas.Grind.{common_steps}
use Rattle.std.proofs.lemmas.List.{set-get_or}
use Rattle.std.proofs.lemmas.Option.{slice_get_within, slice_get_read}
use Rattle.jvm_heap.specs.declared.slot.Slot.{Slot}
use Rattle.jvm_heap.specs.Objects.{Object}
use Rattle.jvm_heap.specs.Heaps.{Heap, with_objects, replaced, grown, most_cells, slots_of, with_slots, slot_at, with_slot}
use Rattle.jvm_heap.specs.declared.fault.HeapFault.{HeapFault}
use Rattle.jvm_heap.specs.declared.fault.HeapFault.TheVariants as faults
use Rattle.jvm_heap.specs.Changes.{changed, enlarged, CanChange, Enlarges}

some-none : {A : Type 0} (o : Option A) → IsSome o → o ≡ None → ⊥
some-none o some none = cc

not_full : (r : Result Unit HeapFault) → r ≡ Ok tt → r ≡ Err faults.Full → ⊥
not_full r ok full = cc

wanting_memory : (r : Result Unit HeapFault) → r ≡ Err faults.Memory → r ≡ Err faults.Full → ⊥
wanting_memory r memory full = cc

module _ {C S : Type 0} where
  pub with_slot-next : (m place : ℕ) (slot : Slot) (h : Heap C S) (o new : Object C S) → slice_get h.objects m ≡ Some o → place < length (slots_of o) → new ≡ with_slots o (slice_set (slots_of o) place slot) → with_slot (suc m) place slot h ≡ Some (with_objects (slice_set h.objects m new) h.cells h)
  unfolding with_slot replaced
  with_slot-next m place slot h o new found within is = grind (arith, found, within, is)

  pub slot_at-within : (m place : ℕ) (h : Heap C S) (o : Object C S) → slice_get h.objects m ≡ Some o → IsSome (slot_at (suc m) place h) → place < length (slots_of o)
  unfolding slot_at
  slot_at-within m place h o found there = grind (arith, common_steps, slice_get_within, found, there)

  pub with_slot-there : (n m place : ℕ) (slot : Slot) (h k : Heap C S) (o new : Object C S) → k ≡ h → n ≡ suc m → m < length h.objects → o ≡ get_or k.objects m o → IsSome (slot_at n place h) → new ≡ with_slots o (slice_set (slots_of o) place slot) → with_slot n place slot h ≡ Some (with_objects (slice_set k.objects m new) k.cells k)
  with_slot-there n m place slot h k o new same next within is there changes =
      subst (λ x. m < length x.objects → IsSome (slot_at n place x) → with_slot n place slot x ≡ Some (with_objects (slice_set k.objects m new) k.cells k)) same (λ inside. subst (λ y. IsSome (slot_at y place k) → with_slot y place slot k ≡ Some (with_objects (slice_set k.objects m new) k.cells k)) (sym next) (λ somewhere. let found = slice_get_read _ _ _ _ refl inside is in with_slot-next m place slot k o new found (slot_at-within m place k o found somewhere) changes)) within there

  pub changed-next : (change : Object C S → Option (Object C S)) (m : ℕ) (h : Heap C S) (o new : Object C S) → slice_get h.objects m ≡ Some o → change o ≡ Some new → changed change (suc m) h ≡ Some (with_objects (slice_set h.objects m new) h.cells h)
  unfolding changed replaced
  changed-next change m h o new found is = grind (arith, found, is)

  pub changed-there : (change : Object C S → Option (Object C S)) (n m : ℕ) (h k : Heap C S) (o new : Object C S) → k ≡ h → n ≡ suc m → m < length h.objects → o ≡ get_or k.objects m o → change o ≡ Some new → changed change n h ≡ Some (with_objects (slice_set k.objects m new) k.cells k)
  changed-there change n m h k o new same next within is changes =
      subst (λ x. m < length x.objects → changed change n x ≡ Some (with_objects (slice_set k.objects m new) k.cells k)) same (λ inside. subst (λ y. changed change y k ≡ Some (with_objects (slice_set k.objects m new) k.cells k)) (sym next) (changed-next change m k o new (slice_get_read _ _ _ _ refl inside is) changes)) within

  pub enlarged-next : (change : Object C S → Option (Object C S)) (m more : ℕ) (h : Heap C S) (o new : Object C S) → slice_get h.objects m ≡ Some o → change o ≡ Some new → nat_le (h.cells + more) most_cells ≡ true → enlarged change (suc m) more h ≡ Some (with_objects (slice_set h.objects m new) (h.cells + more) h)
  unfolding enlarged grown
  enlarged-next change m more h o new found is room = grind (arith, found, is, room)

  pub enlarged-there : (change : Object C S → Option (Object C S)) (n m more : ℕ) (h k : Heap C S) (o new : Object C S) → k ≡ h → n ≡ suc m → m < length h.objects → o ≡ get_or k.objects m o → change o ≡ Some new → nat_le (h.cells + more) most_cells ≡ true → enlarged change n more h ≡ Some (with_objects (slice_set k.objects m new) (k.cells + more) k)
  enlarged-there change n m more h k o new same next within is changes room =
      subst (λ x. m < length x.objects → nat_le (x.cells + more) most_cells ≡ true → enlarged change n more x ≡ Some (with_objects (slice_set k.objects m new) (k.cells + more) k)) same (λ inside small. subst (λ y. enlarged change y more k ≡ Some (with_objects (slice_set k.objects m new) (k.cells + more) k)) (sym next) (enlarged-next change m more k o new (slice_get_read _ _ _ _ refl inside is) changes small)) within room

  pub enlarged-full : (change : Object C S → Option (Object C S)) (n more : ℕ) (h : Heap C S) → nat_le (h.cells + more) most_cells ≡ false → enlarged change n more h ≡ None
  unfolding enlarged grown
  enlarged-full change n more h full = grind (arith, full)

  pub can_change-next : (change : Object C S → Option (Object C S)) (m : ℕ) (h : Heap C S) (o : Object C S) → slice_get h.objects m ≡ Some o → CanChange change (suc m) h → IsSome (change o)
  can_change-next change m h o found can = grind (arith, found, can)

  pub can_change-there : (change : Object C S → Option (Object C S)) (n m : ℕ) (h k : Heap C S) (o : Object C S) → k ≡ h → n ≡ suc m → m < length h.objects → o ≡ get_or k.objects m o → CanChange change n h → IsSome (change o)
  can_change-there change n m h k o same next within is can =
      subst (λ x. m < length x.objects → CanChange change n x → IsSome (change o)) same (λ inside. subst (λ y. CanChange change y k → IsSome (change o)) (sym next) (can_change-next change m k o (slice_get_read _ _ _ _ refl inside is))) within can

  -- An object can be made larger where the limit allows it.
  pub enlarged-room : (change : Object C S → Option (Object C S)) (n more : ℕ) (h : Heap C S) → CanChange change n h → nat_le (h.cells + more) most_cells ≡ true → IsSome (enlarged change n more h)
  unfolding enlarged grown
  enlarged-room change n more h can room = grind (arith, can, room)

  pub Enlarges-full : (change : Object C S → Option (Object C S)) (n more : ℕ) (h : Heap C S) → nat_le (h.cells + more) most_cells ≡ false → Enlarges (enlarged change n more h) (Err faults.Full) h h
  Enlarges-full change n more h full =
      record { done = tt; full = (λ e. enlarged-full change n more h full, λ e. refl); kept = refl }

  pub Enlarges-done : (change : Object C S → Option (Object C S)) (n m more : ℕ) (h k : Heap C S) (o new : Object C S) → k ≡ h → n ≡ suc m → m < length h.objects → o ≡ get_or k.objects m o → change o ≡ Some new → nat_le (h.cells + more) most_cells ≡ true → Enlarges (enlarged change n more h) (Ok tt) h (with_objects (slice_set k.objects m new) (k.cells + more) k)
  Enlarges-done change n m more h k o new same next within is changes room =
      let there = enlarged-there change n m more h k o new same next within is changes room in
      record { done = there; full = (λ e. absurd (not_full _ refl e), λ none. absurd (some-none _ (ap is_some there) none)); kept = tt }

  pub Enlarges-wanting : (change : Object C S → Option (Object C S)) (n m more : ℕ) (h k : Heap C S) (o new : Object C S) → k ≡ h → o ≡ get_or k.objects m o → new ≡ o → CanChange change n h → nat_le (h.cells + more) most_cells ≡ true → Enlarges (enlarged change n more h) (Err faults.Memory) h (with_objects (slice_set k.objects m new) k.cells k)
  Enlarges-wanting change n m more h k o new same is unchanged can room =
      let as_before : slice_set k.objects m new ≡ k.objects = ap (slice_set k.objects m) (unchanged ∙ is) ∙ set-get_or k.objects m o in
      record { done = tt; full = (λ e. absurd (wanting_memory _ refl e), λ none. absurd (some-none _ (enlarged-room change n more h can room) none)); kept = ap (λ objects. with_objects objects k.cells k) as_before ∙ same }
