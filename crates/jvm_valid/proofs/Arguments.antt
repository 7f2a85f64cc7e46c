-- The arguments of a body are values of the kinds of its parameters.
use Rattle.std.proofs.Common.{◌≡◌, ℕ, Bool, true, false, cond, ◌&&◌, List, [], ◌∷◌, Option, Some, None, inl, inr, refl, sym, ap, ◌∙◌, subst}
use Rattle.std.specs.Prelude.{◌==◌, option_map, option_and_then, filter_map}
use Rattle.std.specs.Str.{byte}
use Rattle.std.proofs.lemmas.Bool.{cases_Bool, eqb-true}
use Rattle.jvm_tables.specs.declared.instruction.ValueKind.{ValueKind}
use Rattle.jvm_tables.specs.declared.instruction.ValueKind.TheVariants as values
use Rattle.class_model.specs.declared.class_file.Class.{Class}
use Rattle.class_model.specs.Descriptors.{FieldType}
use Rattle.class_model.specs.Descriptors as types
use Rattle.class_code.specs.Types.{kind}
use Rattle.tree_value.specs.Values.{Whole}
use Rattle.tree_value.specs.Values as wholes
use Rattle.jvm_heap.specs.declared.slot.Slot.{Slot}
use Rattle.jvm_heap.specs.declared.slot.Slot.TheVariants.{Int, Long}
use Rattle.native_model.specs.Worlds.{NamedHeap}
use Rattle.jvm_model.specs.Bodies.{placed, truth_of, number_argument, fits, all_fit, as_reference, with_heap, argument, arguments}
use Rattle.jvm_valid.specs.Values.{IsValue, AreValues}
use Rattle.jvm_valid.specs.Heaps.{IsHeap}
use Rattle.jvm_valid.proofs.Growing.{values_kept, Grows}
use Rattle.jvm_valid.proofs.Placing.{stays, grows_through, IsPlaced, value_placed}

-- a value of the kind of a type, which has one
abbrev IsOfType : NamedHeap → FieldType → Slot → Type 0
IsOfType h t slot = (k : ValueKind) × (kind t ≡ Some k) × IsValue h k slot

-- a letter that is another one
by_letter : (letter other : ℕ) (slot found : Slot) (h : NamedHeap) → (letter == other) ≡ true → IsOfType h (types.primitive other) slot
    → cond (letter == other) (Some slot) None ≡ Some found → IsOfType h (types.primitive letter) found
by_letter letter other slot found h is of e =
    let same : letter ≡ other = eqb-true letter other is in
    let picked : cond (letter == other) (Some slot) None ≡ Some slot = ap (λ b. cond b (Some slot) None) is in
    let one : slot ≡ found = some_same slot found (sym picked ∙ e) in
    subst (λ l. IsOfType h (types.primitive l) found) (sym same) (subst (IsOfType h (types.primitive other)) one of)
  where
    some_same : (a b : Slot) → Some a ≡ Some b → a ≡ b
    some_same a b f = cc

if_letter : (letter other : ℕ) (slot found : Slot) (h : NamedHeap) → IsOfType h (types.primitive other) slot
    → cond (letter == other) (Some slot) None ≡ Some found → IsOfType h (types.primitive letter) found
if_letter letter other slot found h of e = elim (cases_Bool (letter == other)) [
  | inl is ↦ by_letter letter other slot found h is of e
  | inr not ↦ (let no : None ≡ Some found = sym (ap (λ b. cond b (Some slot) None) not) ∙ e in cc)
]

number_is : (letter : ℕ) (v : Whole) (found : Slot) (h : NamedHeap) → number_argument letter v ≡ Some found → IsOfType h (types.primitive letter) found
number_is letter (wholes.bool b) found h e = if_letter letter (byte "Z") (Int (truth_of b)) found h (values.Int, refl, (refl, tt)) e
number_is letter (wholes.int n) found h e = if_letter letter (byte "I") (Int n) found h (values.Int, refl, (refl, tt)) e
number_is letter (wholes.long n) found h e = if_letter letter (byte "J") (Long n) found h (values.Long, refl, (refl, tt)) e
number_is letter wholes.null found h e = let no : None ≡ Some found = e in cc
number_is letter (wholes.text bytes) found h e = let no : None ≡ Some found = e in cc
number_is letter (wholes.list items) found h e = let no : None ≡ Some found = e in cc
number_is letter (wholes.reference owner path tree) found h e = let no : None ≡ Some found = e in cc

-- one argument, and the heap in which it stands
abbrev IsArgument : List Class → NamedHeap → FieldType → Slot × NamedHeap → Type 0
IsArgument program h t made = Grows program h made.1 × IsOfType made.1 t made.0

module _ (program : List Class) where
  number_made : (letter : ℕ) (h : NamedHeap) (o : Option Slot) (made : Slot × NamedHeap) → IsHeap program h
      → ((slot : Slot) → o ≡ Some slot → IsOfType h (types.primitive letter) slot) → option_map (with_heap h) o ≡ Some made → IsArgument program h (types.primitive letter) made
  number_made letter h None made heap is e = let no : None ≡ Some made = e in cc
  number_made letter h (Some slot) made heap is e =
      let same : (slot, h) ≡ made = cc in
      subst (IsArgument program h (types.primitive letter)) same (stays program h heap, is slot refl)

  object_made : (t : FieldType) (h : NamedHeap) (o : Option (ℕ × NamedHeap)) (made : Slot × NamedHeap) → kind t ≡ Some values.Reference
      → ((one : ℕ × NamedHeap) → o ≡ Some one → IsPlaced program h one) → option_map as_reference o ≡ Some made → IsArgument program h t made
  object_made t h None made of is e = let no : None ≡ Some made = e in cc
  object_made t h (Some one) made of is e =
      let same : as_reference one ≡ made = cc in
      let there : IsPlaced program h one = is one refl in
      subst (IsArgument program h t) same (there.0, (values.Reference, of, (refl, there.1)))

  argument_made : (t : FieldType) (v : Whole) (h : NamedHeap) (made : Slot × NamedHeap) → IsHeap program h → argument t v h ≡ Some made → IsArgument program h t made
  argument_made (types.primitive letter) v h made heap e =
      number_made letter h (number_argument letter v) made heap (λ slot f. number_is letter v slot h f) e
  argument_made (types.object name) v h made heap e =
      object_made (types.object name) h (placed v h) made refl (λ one f. value_placed program v h one heap f) e
  argument_made (types.array t) v h made heap e =
      object_made (types.array t) h (placed v h) made refl (λ one f. value_placed program v h one heap f) e

  abbrev AreArguments : NamedHeap → List FieldType → List Slot × NamedHeap → Type 0
  AreArguments h ts made = Grows program h made.1 × AreValues made.1 (filter_map kind ts) made.0

  kinds_with : (t : FieldType) (ts : List FieldType) (k : ValueKind) → kind t ≡ Some k → filter_map kind (t ∷ ts) ≡ k ∷ filter_map kind ts
  kinds_with t ts k e = rw e refl

  one_more : (h : NamedHeap) (t : FieldType) (ts : List FieldType) (one : Slot × NamedHeap) (o : Option (List Slot × NamedHeap)) (made : List Slot × NamedHeap)
      → IsArgument program h t one → ((more : List Slot × NamedHeap) → o ≡ Some more → AreArguments one.1 ts more)
      → option_map (λ (more : List Slot × NamedHeap). (one.0 ∷ more.0, more.1)) o ≡ Some made → AreArguments h (t ∷ ts) made
  one_more h t ts one None made is rest e = let no : None ≡ Some made = e in cc
  one_more h t ts one (Some more) made is rest e =
      let are : AreArguments one.1 ts more = rest more refl in
      let same : (one.0 ∷ more.0, more.1) ≡ made = cc in
      let grows : Grows program h more.1 = grows_through program h one.1 more.1 is.0 are.0 in
      let kept : AreValues more.1 (is.1.0 ∷ []) (one.0 ∷ []) = values_kept program one.1 more.1 are.0.more (is.1.0 ∷ []) (one.0 ∷ []) (is.1.2, tt) in
      let values : AreValues more.1 (is.1.0 ∷ filter_map kind ts) (one.0 ∷ more.0) = (kept.0, are.1) in
      subst (AreArguments h (t ∷ ts)) same
      (grows, subst (λ own. AreValues more.1 own (one.0 ∷ more.0)) (sym (kinds_with t ts is.1.0 is.1.1)) values)

  first_of : (h : NamedHeap) (t : FieldType) (ts : List FieldType) (o : Option (Slot × NamedHeap)) (others : NamedHeap → Option (List Slot × NamedHeap)) (made : List Slot × NamedHeap)
      → ((one : Slot × NamedHeap) → o ≡ Some one → IsArgument program h t one)
      → ((k : NamedHeap) (more : List Slot × NamedHeap) → IsHeap program k → others k ≡ Some more → AreArguments k ts more)
      → option_and_then (λ (one : Slot × NamedHeap). option_map (λ (more : List Slot × NamedHeap). (one.0 ∷ more.0, more.1)) (others one.1)) o ≡ Some made → AreArguments h (t ∷ ts) made
  first_of h t ts None others made first rest e = let no : None ≡ Some made = e in cc
  first_of h t ts (Some one) others made first rest e =
      let is : IsArgument program h t one = first one refl in
      one_more h t ts one (others one.1) made is (λ more f. rest one.1 more is.0.heap f) e

  both : (a b : Bool) → (a && b) ≡ true → b ≡ true
  both true b e = e
  both false b e = cc

  -- arguments that fit are values of the kinds of the parameters, in a heap that has grown by them
  pub arguments_are : (ts : List FieldType) (vs : List Whole) (h : NamedHeap) (made : List Slot × NamedHeap) → IsHeap program h → all_fit ts vs ≡ true → arguments ts vs h ≡ Some made
      → AreArguments h ts made
  arguments_are [] [] h made heap fit e =
      let same : (let none : List Slot × NamedHeap = ([], h) in none) ≡ made = cc in
      subst (AreArguments h []) same (stays program h heap, tt)
  arguments_are [] (v ∷ vs) h made heap fit e = cc
  arguments_are (t ∷ ts) [] h made heap fit e = cc
  arguments_are (t ∷ ts) (v ∷ vs) h made heap fit e =
      first_of h t ts (argument t v h) (arguments ts vs) made (λ one f. argument_made t v h one heap f)
      (λ k more k_heap f. arguments_are ts vs k more k_heap (both (fits t v) (all_fit ts vs) fit) f) e
