-- What is valid of a heap stays so when an object more is made.
use Rattle.std.proofs.Common.{◌≡◌, ◌≤◌, ℕ, zero, suc, ◌+◌, Bool, true, false, cond, List, [], ◌∷◌, ◌++◌, length, Option, Some, None, ◌⊎◌, inl, inr, refl, sym, ap, ◌∙◌, subst, arith}
use Rattle.std.specs.Prelude.{slice_get, nat_le}
use Rattle.jvm_tables.specs.declared.instruction.ValueKind.{ValueKind}
use Rattle.class_model.specs.declared.class_file.Class.{Class}
use Rattle.class_model.specs.declared.identifiers.MemberRef.{MemberRef}
use Rattle.class_code.specs.Types.{kind_of, parameter_kinds}
use Rattle.jvm_heap.specs.declared.slot.Slot.{Slot}
use Rattle.jvm_heap.specs.declared.slot.Slot.TheVariants.{Top, Int, Long, Ref}
use Rattle.jvm_heap.specs.Objects.{plain, throwable, enumerated, array, text, boxed_int, boxed_long, boxed_boolean, listed, builder, iterator, path_reference, lambda, cells_of}
use Rattle.jvm_heap.specs.Heaps.{most_cells, object_at, with_objects, allocated}
use Rattle.native_model.specs.Worlds.{NamedObject, NamedHeap}
use Rattle.jvm_valid.specs.Values.{IsNumber, AreNumbers, IsThere, IsValue, AreValues, IsOfKind, AreOfKind}
use Rattle.jvm_valid.specs.Heaps.{AreFields, HasFields, component_kind, IsObject, IsHeap}

module _ (program : List Class) (h k : NamedHeap) (more : length h.objects ≤ length k.objects) where
  pub number_kept : (n : ℕ) → IsNumber h n → IsNumber k n
  number_kept n is = omega (arith, is, more)

  pub numbers_kept : (ns : List ℕ) → AreNumbers h ns → AreNumbers k ns
  numbers_kept [] are = tt
  numbers_kept (n ∷ ns) are = (number_kept n are.0, numbers_kept ns are.1)

  there_kept : (x : Slot) → IsThere h x → IsThere k x
  there_kept Top is = tt
  there_kept (Int n) is = tt
  there_kept (Long n) is = tt
  there_kept (Ref n) is = number_kept n is

  value_kept : (kind : ValueKind) (x : Slot) → IsValue h kind x → IsValue k kind x
  value_kept kind x is = (is.0, there_kept x is.1)

  pub values_kept : (own : List ValueKind) (xs : List Slot) → AreValues h own xs → AreValues k own xs
  values_kept [] [] are = tt
  values_kept [] (x ∷ xs) are = absurd are
  values_kept (kind ∷ own) [] are = absurd are
  values_kept (kind ∷ own) (x ∷ xs) are = (value_kept kind x are.0, values_kept own xs are.1)

  of_kind_kept : (kind : Option ValueKind) (x : Slot) → IsOfKind h kind x → IsOfKind k kind x
  of_kind_kept None x is = tt
  of_kind_kept (Some kind) x is = value_kept kind x is

  all_of_kind_kept : (kind : Option ValueKind) (xs : List Slot) → AreOfKind h kind xs → AreOfKind k kind xs
  all_of_kind_kept kind [] are = tt
  all_of_kind_kept kind (x ∷ xs) are = (of_kind_kept kind x are.0, all_of_kind_kept kind xs are.1)

  fields_kept : (fields : List MemberRef) (xs : List Slot) → AreFields h fields xs → AreFields k fields xs
  fields_kept [] [] are = tt
  fields_kept [] (x ∷ xs) are = absurd are
  fields_kept (f ∷ fields) [] are = absurd are
  fields_kept (f ∷ fields) (x ∷ xs) are = (of_kind_kept (kind_of f.descriptor) x are.0, fields_kept fields xs are.1)

  has_fields_kept : (class : List ℕ) (xs : List Slot) → HasFields program h class xs → HasFields program k class xs
  has_fields_kept class xs has = record { layout = has.layout; known = has.known; fields = fields_kept has.layout.fields xs has.fields }

  -- what an object refers to stays there
  pub object_kept : (o : NamedObject) → IsObject program h o → IsObject program k o
  object_kept (plain class fields) is = has_fields_kept class fields is
  object_kept (throwable class fields message cause) is = (has_fields_kept class fields is.0, number_kept message is.1, number_kept cause is.2)
  object_kept (enumerated class fields name ordinal) is = (has_fields_kept class fields is.0, number_kept name is.1)
  object_kept (array kind elements) is = all_of_kind_kept (component_kind kind) elements is
  object_kept (text units) is = tt
  object_kept (boxed_int n) is = tt
  object_kept (boxed_long n) is = tt
  object_kept (boxed_boolean b) is = tt
  object_kept (listed class ns) is = numbers_kept ns is
  object_kept (builder units) is = tt
  object_kept (iterator list next) is = number_kept list is
  object_kept (path_reference owner path) is = tt
  object_kept (lambda origin captured) is = (is.0, values_kept (parameter_kinds origin.site.descriptor) captured is.1)

at_or_last : {X : Type 0} (xs : List X) (o x : X) (n : ℕ) → slice_get (xs ++ o ∷ []) n ≡ Some x → (slice_get xs n ≡ Some x) ⊎ (o ≡ x)
at_or_last {X} [] o x zero e = inr cc
at_or_last {X} [] o x (suc n) e = let no : None ≡ Some x = e in cc
at_or_last {X} (y ∷ xs) o x zero e = inl e
at_or_last {X} (y ∷ xs) o x (suc n) e = at_or_last xs o x n e

at_kept : {X : Type 0} (xs ys : List X) (x : X) (n : ℕ) → slice_get xs n ≡ Some x → slice_get (xs ++ ys) n ≡ Some x
at_kept {X} [] ys x n e = let no : None ≡ Some x = e in cc
at_kept {X} (y ∷ xs) ys x zero e = e
at_kept {X} (y ∷ xs) ys x (suc n) e = at_kept xs ys x n e

length_more : {X : Type 0} (xs : List X) (o : X) → length (xs ++ o ∷ []) ≡ length xs + 1
length_more {X} [] o = refl
length_more {X} (y ∷ xs) o = let more : length (xs ++ o ∷ []) ≡ length xs + 1 = length_more xs o in omega (arith, more)

-- what is made, and where
pub record IsMade (o : NamedObject) (h : NamedHeap) (made : ℕ × NamedHeap) : Type 0 where
  pub number : made.0 ≡ length h.objects + 1
  pub heap : made.1 ≡ with_objects (h.objects ++ o ∷ []) (h.cells + cells_of o) h

pub made_of : (o : NamedObject) (h : NamedHeap) (made : ℕ × NamedHeap) → allocated o h ≡ Some made → IsMade o h made
unfolding allocated
made_of o h made e = by_room (nat_le (h.cells + cells_of o) most_cells) e
  where
    whole : ℕ × NamedHeap
    whole = (length h.objects + 1, with_objects (h.objects ++ o ∷ []) (h.cells + cells_of o) h)

    by_room : (b : Bool) → cond b (Some whole) None ≡ Some made → IsMade o h made
    by_room false f = let no : None ≡ Some made = f in cc
    by_room true f =
        let same : whole ≡ made = cc in
        record { number = ap (λ (m : ℕ × NamedHeap). m.0) (sym same); heap = ap (λ (m : ℕ × NamedHeap). m.1) (sym same) }

-- the heap has grown, and is one as before
pub record Grows (program : List Class) (h k : NamedHeap) : Type 0 where
  pub more : length h.objects ≤ length k.objects
  pub heap : IsHeap program k

module _ (program : List Class) (o : NamedObject) (h : NamedHeap) where
  larger : NamedHeap
  larger = with_objects (h.objects ++ o ∷ []) (h.cells + cells_of o) h

  larger_has_more : length h.objects ≤ length larger.objects
  unfolding larger
  larger_has_more = let l : length (h.objects ++ o ∷ []) ≡ length h.objects + 1 = length_more h.objects o in omega (arith, l)

  found_in_larger : (n : ℕ) (x : NamedObject) → object_at n h ≡ Some x → object_at n larger ≡ Some x
  unfolding larger
  found_in_larger zero x e = let no : None ≡ Some x = e in cc
  found_in_larger (suc n) x e = at_kept h.objects (o ∷ []) x n e

  objects_in_larger : IsHeap program h → IsObject program h o → (n : ℕ) (x : NamedObject) → object_at n larger ≡ Some x → IsObject program larger x
  unfolding larger
  objects_in_larger heap is zero x e = let no : None ≡ Some x = e in cc
  objects_in_larger heap is (suc n) x e = elim (at_or_last h.objects o x n e) [
    | inl old ↦ object_kept program h larger larger_has_more x (heap.objects (suc n) x old)
    | inr last ↦ subst (IsObject program larger) last (object_kept program h larger larger_has_more o is)
  ]

  larger_is_heap : IsHeap program h → IsObject program h o → IsHeap program larger
  unfolding larger
  larger_is_heap heap is = record {
    objects = objects_in_larger heap is;
    texts = λ units n among. found_in_larger n (text units) (heap.texts units n among);
    ints = λ value n among. found_in_larger n (boxed_int value) (heap.ints value n among);
    longs = λ value n among. found_in_larger n (boxed_long value) (heap.longs value n among);
    booleans = λ value n among. found_in_larger n (boxed_boolean value) (heap.booleans value n among);
  }

  -- an object that is one is made, and is there
  pub made_grows : (made : ℕ × NamedHeap) → allocated o h ≡ Some made → IsHeap program h → IsObject program h o → Grows program h made.1 × IsNumber made.1 made.0
  unfolding larger
  made_grows made e heap is =
      let m : IsMade o h made = made_of o h made e in
      let grows : Grows program h larger = record { more = larger_has_more; heap = larger_is_heap heap is } in
      let l : length (h.objects ++ o ∷ []) ≡ length h.objects + 1 = length_more h.objects o in
      (subst (Grows program h) (sym m.heap) grows, number_there made m l)
    where
      number_there : (made : ℕ × NamedHeap) → IsMade o h made → length (h.objects ++ o ∷ []) ≡ length h.objects + 1 → IsNumber made.1 made.0
      number_there made m l =
          let many : length made.1.objects ≡ length h.objects + 1 = ap (λ (k : NamedHeap). length k.objects) m.heap ∙ l in
          omega (arith, many, m.number)
