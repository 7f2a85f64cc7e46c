-- A body's arguments in a fresh heap.
use Rattle.std.proofs.Common.{◌≡◌, ℕ, zero, suc, List, [], ◌∷◌, Option, Some, None, refl, subst, arith}
use Rattle.std.specs.Prelude.{option_map, option_and_then, Contains}
use Rattle.class_model.specs.declared.class_file.Class.{Class}
use Rattle.tree_value.specs.Values.{Whole, Wholes}
use Rattle.tree_value.specs.Values as wholes
use Rattle.jvm_heap.specs.Objects.{text, boxed_int, boxed_long, boxed_boolean, listed, path_reference}
use Rattle.jvm_heap.specs.Heaps.{empty, object_at, allocated}
use Rattle.native_model.specs.Texts.{units_of_text}
use Rattle.native_model.specs.Worlds.{NamedObject, NamedHeap}
use Rattle.native_model.specs.Lists.{fixed_list}
use Rattle.jvm_model.specs.Bodies.{placed, all_placed}
use Rattle.jvm_valid.specs.Values.{IsNumber, AreNumbers}
use Rattle.jvm_valid.specs.Heaps.{IsHeap}
use Rattle.jvm_valid.proofs.Growing.{number_kept, Grows, made_grows}

-- a heap without objects is one
pub empty_is_heap : (program : List Class) → IsHeap program empty
empty_is_heap program = record {
  objects = λ n o e. absurd (no_object n o e);
  texts = λ units n among. absurd (none among);
  ints = λ value n among. absurd (none among);
  longs = λ value n among. absurd (none among);
  booleans = λ value n among. absurd (none among);
}
  where
    no_object : (n : ℕ) (o : NamedObject) → object_at n (let h : NamedHeap = empty in h) ≡ Some o → ⊥
    no_object zero o e = let no : None ≡ Some o = e in cc
    no_object (suc n) o e = let no : None ≡ Some o = e in cc

    none : {X : Type 0} {x : X} → Contains [] x → ⊥
    none {X} {x} c = omega (arith, c.1)

pub grows_through : (program : List Class) (h k l : NamedHeap) → Grows program h k → Grows program k l → Grows program h l
grows_through program h k l a b = let x = a.more in let y = b.more in record { more = omega (arith, x, y); heap = b.heap }

pub stays : (program : List Class) (h : NamedHeap) → IsHeap program h → Grows program h h
stays program h heap = record { more = omega arith; heap = heap }

-- a number or numbers that were placed, and the heap in which they stand
abbrev pub IsPlaced : List Class → NamedHeap → ℕ × NamedHeap → Type 0
IsPlaced program h made = Grows program h made.1 × IsNumber made.1 made.0

abbrev pub ArePlaced : List Class → NamedHeap → List ℕ × NamedHeap → Type 0
ArePlaced program h made = Grows program h made.1 × AreNumbers made.1 made.0

module _ (program : List Class) where
  list_made : (h : NamedHeap) (o : Option (List ℕ × NamedHeap)) (made : ℕ × NamedHeap) → ((items : List ℕ × NamedHeap) → o ≡ Some items → ArePlaced program h items)
      → option_and_then (λ (m : List ℕ × NamedHeap). allocated (listed fixed_list m.0) m.1) o ≡ Some made → IsPlaced program h made
  list_made h None made before e = let no : None ≡ Some made = e in cc
  list_made h (Some items) made before e =
      let are : ArePlaced program h items = before items refl in
      let grown : Grows program items.1 made.1 × IsNumber made.1 made.0 = made_grows program (listed fixed_list items.0) items.1 made e are.0.heap are.1 in
      (grows_through program h items.1 made.1 are.0 grown.0, grown.1)

  more_placed : (h : NamedHeap) (one : ℕ × NamedHeap) (o : Option (List ℕ × NamedHeap)) (made : List ℕ × NamedHeap) → IsPlaced program h one
      → ((more : List ℕ × NamedHeap) → o ≡ Some more → ArePlaced program one.1 more)
      → option_map (λ (more : List ℕ × NamedHeap). (one.0 ∷ more.0, more.1)) o ≡ Some made → ArePlaced program h made
  more_placed h one None made is rest e = let no : None ≡ Some made = e in cc
  more_placed h one (Some more) made is rest e =
      let are : ArePlaced program one.1 more = rest more refl in
      let whole : ArePlaced program h (one.0 ∷ more.0, more.1) =
      (grows_through program h one.1 more.1 is.0 are.0, (number_kept program one.1 more.1 are.0.more one.0 is.1, are.1)) in
      let same : (one.0 ∷ more.0, more.1) ≡ made = cc in
      subst (ArePlaced program h) same whole

  items_placed : (h : NamedHeap) (o : Option (ℕ × NamedHeap)) (items : NamedHeap → Option (List ℕ × NamedHeap)) (made : List ℕ × NamedHeap)
      → ((one : ℕ × NamedHeap) → o ≡ Some one → IsPlaced program h one)
      → ((k : NamedHeap) (more : List ℕ × NamedHeap) → IsHeap program k → items k ≡ Some more → ArePlaced program k more)
      → option_and_then (λ (one : ℕ × NamedHeap). option_map (λ (more : List ℕ × NamedHeap). (one.0 ∷ more.0, more.1)) (items one.1)) o ≡ Some made → ArePlaced program h made
  items_placed h None items made first rest e = let no : None ≡ Some made = e in cc
  items_placed h (Some one) items made first rest e =
      let is : IsPlaced program h one = first one refl in
      more_placed h one (items one.1) made is (λ more f. rest one.1 more is.0.heap f) e

  mutual
    -- a value's objects are such, and its number is there
    pub value_placed : (v : Whole) (h : NamedHeap) (made : ℕ × NamedHeap) → IsHeap program h → placed v h ≡ Some made → IsPlaced program h made
    value_placed wholes.null h made heap e =
        let same : (0, h) ≡ made = cc in
        subst (IsPlaced program h) same (stays program h heap, omega arith)
    value_placed (wholes.bool b) h made heap e = made_grows program (boxed_boolean b) h made e heap tt
    value_placed (wholes.int n) h made heap e = made_grows program (boxed_int n) h made e heap tt
    value_placed (wholes.long n) h made heap e = made_grows program (boxed_long n) h made e heap tt
    value_placed (wholes.text bytes) h made heap e = made_grows program (text (units_of_text bytes)) h made e heap tt
    value_placed (wholes.list items) h made heap e = list_made h (all_placed items h) made (λ m f. values_placed items h m heap f) e
    value_placed (wholes.reference owner path tree) h made heap e = made_grows program (path_reference owner path) h made e heap tt

    pub values_placed : (items : Wholes) (h : NamedHeap) (made : List ℕ × NamedHeap) → IsHeap program h → all_placed items h ≡ Some made → ArePlaced program h made
    values_placed wholes.no_items h made heap e =
        let same : (let none : List ℕ × NamedHeap = ([], h) in none) ≡ made = cc in
        subst (ArePlaced program h) same (stays program h heap, tt)
    values_placed (wholes.item v items) h made heap e =
        items_placed h (placed v h) (all_placed items) made (λ one f. value_placed v h one heap f) (λ k more heap f. values_placed items k more heap f) e
