-- Renaming classes and sites passes by all that is done with objects and heaps.
use Rattle.std.proofs.Common.{◌≡◌, ℕ, ℤ, Bool, true, false, zero, suc, ◌+◌, nat_lt, nat_le, length, slice_set, refl, sym, ap, ◌∙◌}
use Rattle.std.specs.Prelude.{List, [], ◌∷◌, ◌++◌, map, slice_get, Option, Some, None, option_map, option_and_then, if◌then◌else◌}
use Rattle.std.specs.Ordering.{int_cmp, bool_cmp}
use Rattle.std.proofs.lemmas.List.{length-map, map-append, map-set}
use Rattle.std.proofs.lemmas.Option.{slice_get-map}
use Rattle.jvm_heap.specs.declared.slot.Slot.{Slot}
use Rattle.jvm_heap.specs.Objects.{Base, primitive, of_class, ArrayKind, Object, throwable, enumerated, text, boxed_int, boxed_long, boxed_boolean, listed, builder, iterator, lambda, cells_of}
use Rattle.jvm_heap.specs.Heaps.{Heap, empty, object_at, set_object, with_objects, allocated, replaced, grown, most_cells, zero_of, zero_of_base, fresh_array, constant_text, box_of_int, box_of_long, box_of_boolean, kept, kept_or, keep_text, keep_int, keep_long, keep_boolean, text_cmp, is_small, slots_of, with_slots, set_slot, slot_at, with_slot}
use Rattle.jvm_heap.specs.Changes.{with_last, with_element, with_units, with_next, with_message, with_name, changed, enlarged}
use Rattle.jvm_heap.specs.Renaming.{renamed_base, renamed_kind, renamed_object, renamed, renamed_made, SameChange, ObjectsRenamed, HeapsRenamed}

module _ {A B X Y : Type 0} where
  then_mapped : (p : A → B) (q : X → Y) (k : A → Option X) (l : B → Option Y) → ((a : A) → l (p a) ≡ option_map q (k a)) → (o : Option A) → option_and_then l (option_map p o) ≡ option_map q (option_and_then k o)
  then_mapped p q k l same None = refl
  then_mapped p q k l same (Some a) = same a

  mapped_twice : (p : A → B) (q : X → Y) (k : A → X) (l : B → Y) → ((a : A) → l (p a) ≡ q (k a)) → (o : Option A) → option_map l (option_map p o) ≡ option_map q (option_map k o)
  mapped_twice p q k l same None = refl
  mapped_twice p q k l same (Some a) = ap Some (same a)

module _ {A B X : Type 0} where
  then_same : (p : A → B) (k : A → Option X) (l : B → Option X) → ((a : A) → l (p a) ≡ k a) → (o : Option A) → option_and_then l (option_map p o) ≡ option_and_then k o
  then_same p k l same None = refl
  then_same p k l same (Some a) = same a

module _ {A B : Type 0} where
  some_if : (q : A → B) (b : Bool) (x : A) → (if b then Some (q x) else None) ≡ option_map q (if b then Some x else None)
  some_if q true x = refl
  some_if q false x = refl

  either_if : (q : A → B) (b : Bool) (x y : Option A) (u v : Option B) → u ≡ option_map q x → v ≡ option_map q y → (if b then u else v) ≡ option_map q (if b then x else y)
  either_if q true x y u v same other = same
  either_if q false x y u v same other = other

module _ {C D S T : Type 0} (f : C → D) (g : S → T) where
  cells : (o : Object C S) → cells_of (renamed_object f g o) ≡ cells_of o
  cells (lambda site captured) = refl
  cells _ = refl

  slots : (o : Object C S) → slots_of (renamed_object f g o) ≡ slots_of o
  slots (lambda site captured) = refl
  slots _ = refl

  others : (o : Object C S) (new : List Slot) → with_slots (renamed_object f g o) new ≡ renamed_object f g (with_slots o new)
  others (lambda site captured) new = refl
  others _ new = refl

  zero_base : (b : Base C) → zero_of_base (renamed_base f b) ≡ zero_of_base b
  zero_base (primitive kind) = refl
  zero_base (of_class class) = refl

  zero_kind : (kind : ArrayKind C) → zero_of (renamed_kind f kind) ≡ zero_of kind
  zero_kind kind = rw (zero_base kind.base)

  fresh : (kind : ArrayKind C) (n : ℕ) → renamed_object f g (fresh_array kind n) ≡ fresh_array (renamed_kind f kind) n
  fresh kind n = rw (zero_kind kind)

  last : (element : ℕ) → SameChange f g (with_last element) (with_last element)
  last element (listed class elements) = refl
  last element _ = refl

  element_at : (place element : ℕ) → SameChange f g (with_element place element) (with_element place element)
  element_at place element (listed class elements) = some_if (renamed_object f g) (nat_lt place (length elements)) (listed class (slice_set elements place element))
  element_at place element _ = refl

  units_behind : (units : List ℕ) → SameChange f g (with_units units) (with_units units)
  units_behind units (builder built) = refl
  units_behind units _ = refl

  next_at : (next : ℕ) → SameChange f g (with_next next) (with_next next)
  next_at next (iterator list passed) = refl
  next_at next _ = refl

  message_of : (message cause : ℕ) → SameChange f g (with_message message cause) (with_message message cause)
  message_of message cause (throwable class fields words reason) = refl
  message_of message cause _ = refl

  name_of : (name : ℕ) (ordinal : ℤ) → SameChange f g (with_name name ordinal) (with_name name ordinal)
  name_of name ordinal (enumerated class fields words number) = refl
  name_of name ordinal _ = refl

  pub objects_renamed : ObjectsRenamed f g
  objects_renamed =
      record {
        cells = cells;
        slots = slots;
        with_slots = others;
        zero_of = zero_kind;
        fresh_array = fresh;
        with_last = last;
        with_element = element_at;
        with_units = units_behind;
        with_next = next_at;
        with_message = message_of;
        with_name = name_of;
      }

  none_yet : renamed f g empty ≡ empty
  unfolding renamed
  none_yet = refl

  at : (n : ℕ) (h : Heap C S) → object_at n (renamed f g h) ≡ option_map (renamed_object f g) (object_at n h)
  unfolding renamed
  at zero h = refl
  at (suc n) h = slice_get-map (renamed_object f g) h.objects n

  slot_of : (n place : ℕ) (h : Heap C S) → slot_at n place (renamed f g h) ≡ slot_at n place h
  unfolding slot_at
  slot_of n place h =
      rw (at n h) (then_same (renamed_object f g) (λ o. slice_get (slots_of o) place) (λ o. slice_get (slots_of o) place) (λ o. ap (λ found. slice_get found place) (slots o)) (object_at n h))

  put : (objects : List (Object C S)) (cells : ℕ) (h : Heap C S) → with_objects (map (renamed_object f g) objects) cells (renamed f g h) ≡ renamed f g (with_objects objects cells h)
  unfolding renamed
  put objects cells h = refl

  made_behind : (o : Object C S) (h : Heap C S) → (length (map (renamed_object f g) h.objects) + 1, with_objects (map (renamed_object f g) h.objects ++ renamed_object f g o ∷ []) (h.cells + cells_of o) (renamed f g h)) ≡ renamed_made f g (length h.objects + 1, with_objects (h.objects ++ o ∷ []) (h.cells + cells_of o) h)
  made_behind o h =
      rw (length-map h.objects (renamed_object f g), ← map-append (renamed_object f g) h.objects (o ∷ []), put (h.objects ++ o ∷ []) (h.cells + cells_of o) h)

  made : (o : Object C S) (h : Heap C S) → allocated (renamed_object f g o) (renamed f g h) ≡ option_map (renamed_made f g) (allocated o h)
  unfolding allocated renamed
  made o h =
      rw (cells o) (ap (λ new. if nat_le (h.cells + cells_of o) most_cells then Some new else None) (made_behind o h) ∙ some_if (renamed_made f g) (nat_le (h.cells + cells_of o) most_cells) (length h.objects + 1, with_objects (h.objects ++ o ∷ []) (h.cells + cells_of o) h))

  set_renamed : (n : ℕ) (o : Object C S) (objects : List (Object C S)) → set_object n (renamed_object f g o) (map (renamed_object f g) objects) ≡ map (renamed_object f g) (set_object n o objects)
  set_renamed zero o objects = refl
  set_renamed (suc n) o objects = sym (map-set (renamed_object f g) objects n o)

  put_in_place : (n : ℕ) (o : Object C S) (cells : ℕ) (h : Heap C S) → with_objects (set_object n (renamed_object f g o) (map (renamed_object f g) h.objects)) cells (renamed f g h) ≡ renamed f g (with_objects (set_object n o h.objects) cells h)
  put_in_place n o cells h = rw (set_renamed n o h.objects) (put (set_object n o h.objects) cells h)

  in_place : (n : ℕ) (o : Object C S) (h : Heap C S) → replaced n (renamed_object f g o) (renamed f g h) ≡ renamed f g (replaced n o h)
  unfolding replaced renamed
  in_place n o h = put_in_place n o h.cells h

  larger : (n : ℕ) (o : Object C S) (more : ℕ) (h : Heap C S) → grown n (renamed_object f g o) more (renamed f g h) ≡ option_map (renamed f g) (grown n o more h)
  unfolding grown renamed
  larger n o more h =
      ap (λ new. if nat_le (h.cells + more) most_cells then Some new else None) (put_in_place n o (h.cells + more) h) ∙ some_if (renamed f g) (nat_le (h.cells + more) most_cells) (with_objects (set_object n o h.objects) (h.cells + more) h)

  slot_set : (n place : ℕ) (slot : Slot) (h : Heap C S) (o : Object C S) → set_slot n place slot (renamed f g h) (renamed_object f g o) ≡ option_map (renamed f g) (set_slot n place slot h o)
  slot_set n place slot h o =
      rw (slots o, others o (slice_set (slots_of o) place slot), in_place n (with_slots o (slice_set (slots_of o) place slot)) h) (some_if (renamed f g) (nat_lt place (length (slots_of o))) (replaced n (with_slots o (slice_set (slots_of o) place slot)) h))

  slot_written : (n place : ℕ) (slot : Slot) (h : Heap C S) → with_slot n place slot (renamed f g h) ≡ option_map (renamed f g) (with_slot n place slot h)
  unfolding with_slot
  slot_written n place slot h =
      rw (at n h) (then_mapped (renamed_object f g) (renamed f g) (set_slot n place slot h) (set_slot n place slot (renamed f g h)) (slot_set n place slot h) (object_at n h))

  change_found : (before : Object C S → Option (Object C S)) (after : Object D T → Option (Object D T)) (n : ℕ) (h : Heap C S) → SameChange f g before after → option_and_then after (object_at n (renamed f g h)) ≡ option_map (renamed_object f g) (option_and_then before (object_at n h))
  change_found before after n h same =
      rw (at n h) (then_mapped (renamed_object f g) (renamed_object f g) before after same (object_at n h))

  change_made : (before : Object C S → Option (Object C S)) (after : Object D T → Option (Object D T)) (n : ℕ) (h : Heap C S) → SameChange f g before after → changed after n (renamed f g h) ≡ option_map (renamed f g) (changed before n h)
  unfolding changed
  change_made before after n h same =
      rw (change_found before after n h same) (mapped_twice (renamed_object f g) (renamed f g) (λ o. replaced n o h) (λ o. replaced n o (renamed f g h)) (λ o. in_place n o h) (option_and_then before (object_at n h)))

  growth_made : (before : Object C S → Option (Object C S)) (after : Object D T → Option (Object D T)) (n more : ℕ) (h : Heap C S) → SameChange f g before after → enlarged after n more (renamed f g h) ≡ option_map (renamed f g) (enlarged before n more h)
  unfolding enlarged
  growth_made before after n more h same =
      rw (change_found before after n h same) (then_mapped (renamed_object f g) (renamed f g) (λ o. grown n o more h) (λ o. grown n o more (renamed f g h)) (λ o. larger n o more h) (option_and_then before (object_at n h)))

  kept_renamed : (found : Option ℕ) (h : Heap C S) (o : Option (ℕ × Heap C S)) (new : Option (ℕ × Heap D T)) → new ≡ option_map (renamed_made f g) o → kept_or found (renamed f g h) new ≡ option_map (renamed_made f g) (kept_or found h o)
  kept_renamed None h o new same = same
  kept_renamed (Some n) h o new same = refl

  kept_and : (keep : ℕ × Heap C S → ℕ × Heap C S) (other : ℕ × Heap D T → ℕ × Heap D T) → ((m : ℕ × Heap C S) → other (renamed_made f g m) ≡ renamed_made f g (keep m)) → (o : Object C S) (h : Heap C S) → option_map other (allocated (renamed_object f g o) (renamed f g h)) ≡ option_map (renamed_made f g) (option_map keep (allocated o h))
  kept_and keep other same o h = rw (made o h) (mapped_twice (renamed_made f g) (renamed_made f g) keep other same (allocated o h))

  text_kept : (units : List ℕ) (m : ℕ × Heap C S) → keep_text units (renamed_made f g m) ≡ renamed_made f g (keep_text units m)
  unfolding renamed
  text_kept units m = refl

  int_kept : (n : ℤ) (m : ℕ × Heap C S) → keep_int n (renamed_made f g m) ≡ renamed_made f g (keep_int n m)
  unfolding renamed
  int_kept n m = refl

  long_kept : (n : ℤ) (m : ℕ × Heap C S) → keep_long n (renamed_made f g m) ≡ renamed_made f g (keep_long n m)
  unfolding renamed
  long_kept n m = refl

  boolean_kept : (b : Bool) (m : ℕ × Heap C S) → keep_boolean b (renamed_made f g m) ≡ renamed_made f g (keep_boolean b m)
  unfolding renamed
  boolean_kept b m = refl

  same_texts : (h : Heap C S) → (renamed f g h).texts ≡ h.texts
  unfolding renamed
  same_texts h = refl

  same_ints : (h : Heap C S) → (renamed f g h).ints ≡ h.ints
  unfolding renamed
  same_ints h = refl

  same_longs : (h : Heap C S) → (renamed f g h).longs ≡ h.longs
  unfolding renamed
  same_longs h = refl

  same_booleans : (h : Heap C S) → (renamed f g h).booleans ≡ h.booleans
  unfolding renamed
  same_booleans h = refl

  text_once : (units : List ℕ) (h : Heap C S) → constant_text units (renamed f g h) ≡ option_map (renamed_made f g) (constant_text units h)
  unfolding constant_text renamed
  text_once units h =
      rw (same_texts h) (kept_renamed (kept text_cmp units h.texts) h _ _ (kept_and (keep_text units) (keep_text units) (text_kept units) (text units) h))

  int_boxed : (n : ℤ) (h : Heap C S) → box_of_int n (renamed f g h) ≡ option_map (renamed_made f g) (box_of_int n h)
  unfolding box_of_int renamed
  int_boxed n h =
      rw (same_ints h) (either_if (renamed_made f g) (is_small n) _ _ _ _ (kept_renamed (kept int_cmp n h.ints) h _ _ (kept_and (keep_int n) (keep_int n) (int_kept n) (boxed_int n) h)) (made (boxed_int n) h))

  long_boxed : (n : ℤ) (h : Heap C S) → box_of_long n (renamed f g h) ≡ option_map (renamed_made f g) (box_of_long n h)
  unfolding box_of_long renamed
  long_boxed n h =
      rw (same_longs h) (either_if (renamed_made f g) (is_small n) _ _ _ _ (kept_renamed (kept int_cmp n h.longs) h _ _ (kept_and (keep_long n) (keep_long n) (long_kept n) (boxed_long n) h)) (made (boxed_long n) h))

  boolean_boxed : (b : Bool) (h : Heap C S) → box_of_boolean b (renamed f g h) ≡ option_map (renamed_made f g) (box_of_boolean b h)
  unfolding box_of_boolean renamed
  boolean_boxed b h =
      rw (same_booleans h) (kept_renamed (kept bool_cmp b h.booleans) h _ _ (kept_and (keep_boolean b) (keep_boolean b) (boolean_kept b) (boxed_boolean b) h))

  pub heaps_renamed : HeapsRenamed f g
  heaps_renamed =
      record {
        empty = none_yet;
        object_at = at;
        slot_at = slot_of;
        allocated = made;
        constant_text = text_once;
        box_of_int = int_boxed;
        box_of_long = long_boxed;
        box_of_boolean = boolean_boxed;
        replaced = in_place;
        grown = larger;
        with_slot = slot_written;
        changed = change_made;
        enlarged = growth_made;
      }
