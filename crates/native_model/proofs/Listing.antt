-- What the world says of lists and iterators that are changed where classes and sites are told by place.
use Rattle.std.proofs.Common.{◌≡◌, ℕ, ◌<◌, ◌≤◌, Bool, true, false, List, [], ◌∷◌, ◌++◌, length, refl, sym, subst, ap, ◌∙◌, arith}
use Rattle.std.specs.Prelude.{slice_set, nat_lt, Option, Some, None, IsSome, IsSomeAnd, IfSome, option_map, option_and_then, Result, if◌then◌else◌}
use Rattle.std.proofs.lemmas.Bool.Decides.{nat_tests}
use Rattle.class_model.specs.declared.identifiers.ClassId.{ClassId}
use Rattle.class_model.specs.declared.identifiers.SiteId.{SiteId}
use Rattle.jvm_heap.specs.declared.slot.Slot.{Slot}
use Rattle.jvm_heap.specs.declared.fault.HeapFault.{HeapFault}
use Rattle.jvm_heap.specs.Objects.{Object, listed, iterator, cells_of}
use Rattle.jvm_heap.specs.Heaps.{Heap, object_at, allocated, replaced, grown, most_cells}
use Rattle.jvm_heap.specs.Changes.{CanChange, Makes, Enlarges, with_last, with_element, with_next, changed, enlarged}
use Rattle.jvm_heap.specs.Renaming.{renamed, renamed_made, renamed_object}
use Rattle.jvm_heap.proofs.Renamed.{objects_renamed, heaps_renamed}
use Rattle.native_model.specs.declared.fault.StepFault.{StepFault}
use Rattle.native_model.specs.declared.native_end.NativeEnd.{NativeEnd}
use Rattle.native_model.specs.Worlds.{Origin, NamedObject, NamedHeap, Surround, World, with_heap, as_list, as_iterator, seen}
use Rattle.native_model.specs.Answers.{gives_within}
use Rattle.native_model.specs.Lists.{fixed_list, gives_list}
use Rattle.native_model.specs.Ends.{named_world, end_of_making, end_of_growing}
use Rattle.native_model.proofs.Told.{Does, read, grew, made_in}

pub if_seen : {A : Type 0} (P : A → Type 0) (o : Option A) → ((a : A) → Some a ≡ o → P a) → IfSome o P
if_seen P None holds = tt
if_seen P (Some a) holds = holds a refl

test_true : (place : ℕ) (elements : List ℕ) → place < length elements → nat_lt place (length elements) ≡ true
test_true place elements within = grind (arith, nat_tests)

-- a change of a list or an iterator, by what it was
element_changed : (place element n : ℕ) (l : List ℕ × List ℕ) (h new : NamedHeap) (x : Option NamedObject) → Some l ≡ option_and_then as_list x → option_map (λ o. replaced n o h) (option_and_then (with_element place element) x) ≡ Some new → replaced n (listed l.0 (slice_set l.1 place element)) h ≡ new
element_changed place element n l h new (Some (listed class elements)) is change = by_test (nat_lt place (length elements)) change
  where
    same : l ≡ (class, elements)
    same = cc

    by_test : (b : Bool) → option_map (λ o. replaced n o h) (if b then Some (listed class (slice_set elements place element)) else None) ≡ Some new → replaced n (listed l.0 (slice_set l.1 place element)) h ≡ new
    by_test true change = let there : replaced n (listed class (slice_set elements place element)) h ≡ new = cc in ap (λ k. replaced n (listed k.0 (slice_set k.1 place element)) h) same ∙ there
    by_test false change = cc
element_changed place element n l h new _ is change = cc

next_changed : (next n : ℕ) (it : ℕ × ℕ) (h new : NamedHeap) (x : Option NamedObject) → Some it ≡ option_and_then as_iterator x → option_map (λ o. replaced n o h) (option_and_then (with_next next) x) ≡ Some new → replaced n (iterator it.0 next) h ≡ new
next_changed next n it h new (Some (iterator list passed)) is change =
    let same : it ≡ (list, passed) = cc in
    let there : replaced n (iterator list next) h ≡ new = cc in
    ap (λ k. replaced n (iterator k.0 next) h) same ∙ there
next_changed next n it h new _ is change = cc

last_grown : (element n : ℕ) (l : List ℕ × List ℕ) (h : NamedHeap) (x : Option NamedObject) → Some l ≡ option_and_then as_list x → grown n (listed l.0 (l.1 ++ element ∷ [])) 1 h ≡ option_and_then (λ o. grown n o 1 h) (option_and_then (with_last element) x)
last_grown element n l h (Some (listed class elements)) is =
    let same : l ≡ (class, elements) = cc in ap (λ k. grown n (listed k.0 (k.1 ++ element ∷ [])) 1 h) same
last_grown element n l h _ is = cc

module _ (f : ClassId → List ℕ) (g : SiteId → Origin) where
  element_can : (place element : ℕ) (x : Option (Object ClassId SiteId)) → IsSomeAnd (option_and_then (λ o. as_list (renamed_object f g o)) x) (λ l. place < length l.1) → IsSome (option_and_then (with_element place element) x)
  element_can place element (Some (listed class elements)) within =
      some_if (nat_lt place (length elements)) (test_true place elements within)
    where
      some_if : (b : Bool) → b ≡ true → let kept : Option (Object ClassId SiteId) = (if b then Some (listed class (slice_set elements place element)) else None) in IsSome kept
      some_if true is = refl
      some_if false is = cc
  element_can place element _ within = absurd within

  last_can : (element : ℕ) (x : Option (Object ClassId SiteId)) → IsSome (option_and_then (λ o. as_list (renamed_object f g o)) x) → IsSome (option_and_then (with_last element) x)
  last_can element (Some (listed class elements)) some = some
  last_can element _ some = some

  next_can : (next : ℕ) (x : Option (Object ClassId SiteId)) → IsSome (option_and_then (λ o. as_iterator (renamed_object f g o)) x) → IsSome (option_and_then (with_next next) x)
  next_can next (Some (iterator list passed)) some = some
  next_can next _ some = some

  pub list_within : (o : Object ClassId SiteId) (l : List ℕ × List ℕ) → Some l ≡ as_list (renamed_object f g o) → cells_of o ≤ most_cells → length l.1 < most_cells
  list_within (listed class elements) l is within = let same : l.1 ≡ elements = cc in omega (arith, ap length same)
  list_within _ l is within = cc

  module _ (dest : List (List ℕ × List ℕ)) (log : List (List ℕ)) (surround : Option Surround) (owner : Option (List ℕ)) where
    -- what is known of an object in the world is known of it in the heap
    known : {A : Type 0} (what : NamedObject → Option A) (P : Option A → Type 0) (n : ℕ) (h : Heap ClassId SiteId) (w : World) → named_world f g h dest log surround owner ≡ w → P (seen what n w) → P (option_and_then (λ o. what (renamed_object f g o)) (object_at n h))
    known what P n h w is some = subst P (read f g what n h) (subst (λ v. P (seen what n v)) (sym is) some)

    pub can_set_element : (place element n : ℕ) (h : Heap ClassId SiteId) (w : World) → named_world f g h dest log surround owner ≡ w → IsSomeAnd (seen as_list n w) (λ l. place < length l.1) → CanChange (with_element place element) n h
    can_set_element place element n h w is some =
        element_can place element (object_at n h) (known as_list (λ x. IsSomeAnd x (λ l. place < length l.1)) n h w is some)

    pub can_add : (element n : ℕ) (h : Heap ClassId SiteId) (w : World) → named_world f g h dest log surround owner ≡ w → IsSome (seen as_list n w) → CanChange (with_last element) n h
    can_add element n h w is some = last_can element (object_at n h) (known as_list IsSome n h w is some)

    pub can_set_next : (next n : ℕ) (h : Heap ClassId SiteId) (w : World) → named_world f g h dest log surround owner ≡ w → IsSome (seen as_iterator n w) → CanChange (with_next next) n h
    can_set_next next n h w is some = next_can next (object_at n h) (known as_iterator IsSome n h w is some)

    element_there : (place element n : ℕ) (old new : Heap ClassId SiteId) (l : List ℕ × List ℕ) → changed (with_element place element) n old ≡ Some new → Some l ≡ option_and_then as_list (object_at n (renamed f g old)) → named_world f g new dest log surround owner ≡ with_heap (replaced n (listed l.0 (slice_set l.1 place element)) (renamed f g old)) (named_world f g old dest log surround owner)
    unfolding changed
    element_there place element n old new l change is =
        ap (λ h. with_heap h (named_world f g old dest log surround owner)) (sym (element_changed place element n l (renamed f g old) (renamed f g new) (object_at n (renamed f g old)) is ((heaps_renamed f g).changed (with_element place element) (with_element place element) n old ((objects_renamed f g).with_element place element) ∙ ap (option_map (renamed f g)) change)))

    pub element_set : (place element n : ℕ) (old new : Heap ClassId SiteId) (w : World) → named_world f g old dest log surround owner ≡ w → changed (with_element place element) n old ≡ Some new → IfSome (seen as_list n w) (λ l. named_world f g new dest log surround owner ≡ with_heap (replaced n (listed l.0 (slice_set l.1 place element)) w.heap) w)
    element_set place element n old new w is change =
        subst (λ v. IfSome (seen as_list n v) (λ l. named_world f g new dest log surround owner ≡ with_heap (replaced n (listed l.0 (slice_set l.1 place element)) v.heap) v)) is
        (if_seen (λ l. named_world f g new dest log surround owner ≡ with_heap (replaced n (listed l.0 (slice_set l.1 place element)) (renamed f g old)) (named_world f g old dest log surround owner)) (option_and_then as_list (object_at n (renamed f g old))) (λ l there. element_there place element n old new l change there))

    next_there : (next n : ℕ) (old new : Heap ClassId SiteId) (it : ℕ × ℕ) → changed (with_next next) n old ≡ Some new → Some it ≡ option_and_then as_iterator (object_at n (renamed f g old)) → named_world f g new dest log surround owner ≡ with_heap (replaced n (iterator it.0 next) (renamed f g old)) (named_world f g old dest log surround owner)
    unfolding changed
    next_there next n old new it change is =
        ap (λ h. with_heap h (named_world f g old dest log surround owner)) (sym (next_changed next n it (renamed f g old) (renamed f g new) (object_at n (renamed f g old)) is ((heaps_renamed f g).changed (with_next next) (with_next next) n old ((objects_renamed f g).with_next next) ∙ ap (option_map (renamed f g)) change)))

    pub next_set : (next n : ℕ) (old new : Heap ClassId SiteId) (w : World) → named_world f g old dest log surround owner ≡ w → changed (with_next next) n old ≡ Some new → IfSome (seen as_iterator n w) (λ it. named_world f g new dest log surround owner ≡ with_heap (replaced n (iterator it.0 next) w.heap) w)
    next_set next n old new w is change =
        subst (λ v. IfSome (seen as_iterator n v) (λ it. named_world f g new dest log surround owner ≡ with_heap (replaced n (iterator it.0 next) v.heap) v)) is
        (if_seen (λ it. named_world f g new dest log surround owner ≡ with_heap (replaced n (iterator it.0 next) (renamed f g old)) (named_world f g old dest log surround owner)) (option_and_then as_iterator (object_at n (renamed f g old))) (λ it there. next_there next n old new it change there))

    added_there : (slot : Option Slot) (element n : ℕ) (r : Result Unit HeapFault) (old new : Heap ClassId SiteId) (l : List ℕ × List ℕ) → Enlarges (enlarged (with_last element) n 1 old) r old new → Some l ≡ option_and_then as_list (object_at n (renamed f g old)) → Does (gives_within slot (named_world f g old dest log surround owner) (grown n (listed l.0 (l.1 ++ element ∷ [])) 1 (renamed f g old))) (end_of_growing slot r) (named_world f g old dest log surround owner) (named_world f g new dest log surround owner)
    unfolding enlarged
    added_there slot element n r old new l larger is =
        grew f g slot dest log surround owner (enlarged (with_last element) n 1 old) (grown n (listed l.0 (l.1 ++ element ∷ [])) 1 (renamed f g old)) r old new (last_grown element n l (renamed f g old) (object_at n (renamed f g old)) is ∙ (heaps_renamed f g).enlarged (with_last element) (with_last element) n 1 old ((objects_renamed f g).with_last element)) larger

    pub element_added : (slot : Option Slot) (element n : ℕ) (r : Result Unit HeapFault) (old new : Heap ClassId SiteId) (w : World) (end : Result NativeEnd StepFault) → named_world f g old dest log surround owner ≡ w → Enlarges (enlarged (with_last element) n 1 old) r old new → end ≡ end_of_growing slot r → IfSome (seen as_list n w) (λ l. Does (gives_within slot w (grown n (listed l.0 (l.1 ++ element ∷ [])) 1 w.heap)) end w (named_world f g new dest log surround owner))
    element_added slot element n r old new w end is larger ends =
        subst (λ v. IfSome (seen as_list n v) (λ l. Does (gives_within slot v (grown n (listed l.0 (l.1 ++ element ∷ [])) 1 v.heap)) end v (named_world f g new dest log surround owner))) is
        (subst (λ e. IfSome (option_and_then as_list (object_at n (renamed f g old))) (λ l. Does (gives_within slot (named_world f g old dest log surround owner) (grown n (listed l.0 (l.1 ++ element ∷ [])) 1 (renamed f g old))) e (named_world f g old dest log surround owner) (named_world f g new dest log surround owner))) (sym ends)
        (if_seen (λ l. Does (gives_within slot (named_world f g old dest log surround owner) (grown n (listed l.0 (l.1 ++ element ∷ [])) 1 (renamed f g old))) (end_of_growing slot r) (named_world f g old dest log surround owner) (named_world f g new dest log surround owner)) (option_and_then as_list (object_at n (renamed f g old))) (λ l there. added_there slot element n r old new l larger there)))

    pub list_made : (class : ClassId) (elements : List ℕ) (r : Result ℕ HeapFault) (old new : Heap ClassId SiteId) (w : World) (end : Result NativeEnd StepFault) → named_world f g old dest log surround owner ≡ w → f class ≡ fixed_list → Makes (allocated (listed class elements) old) r old new → end ≡ end_of_making r → Does (gives_list elements w) end w (named_world f g new dest log surround owner)
    list_made class elements r old new w end is fixed makes ends =
        made_in f g (λ h. allocated (listed fixed_list elements) h) dest log surround owner (allocated (listed class elements) old) r old new w end is
        (subst (λ name. allocated (listed name elements) (renamed f g old) ≡ option_map (renamed_made f g) (allocated (listed class elements) old)) fixed ((heaps_renamed f g).allocated (listed class elements) old)) makes ends
