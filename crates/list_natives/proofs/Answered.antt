-- What callbacks gave, one by one.
use Rattle.std.proofs.Common.{◌≡◌, ℕ, zero, suc, ◌+◌, ◌<◌, true, false, List, [], ◌∷◌, ◌++◌, length, drop, get_or, map, refl, sym, ap, ◌∙◌, add-one, append_assoc, append-nil}
use Rattle.std.specs.Prelude.{Bool, if◌then◌else◌, Option, Some, None, slice_get, option_map}
use Rattle.std.proofs.Math.Seq.{drop-cons, drop-length}
use Rattle.jvm_heap.specs.Objects.{ArrayKind}
use Rattle.jvm_heap.specs.declared.slot.Slot.{Slot}
use Rattle.native_model.specs.Thrown.{incompatible_change}
use Rattle.native_model.specs.Answers.{Answer, throws, is_true, or_mismatch}
use Rattle.native_model.specs.Lists.{passed, last_or, number_in}
use Rattle.list_natives.specs.Kept.{kept_of}

pub slots_behind : (slots : List Slot) (at : ℕ) (slot : Slot) → slice_get slots at ≡ Some slot → drop at slots ≡ slot ∷ drop (suc at) slots
slots_behind [] at slot is = cc
slots_behind (s ∷ slots) zero slot is = let same : s ≡ slot = cc in ap (λ x. x ∷ slots) same
slots_behind (s ∷ slots) (suc at) slot is = slots_behind slots at slot is

pub none_behind : {A : Type 0} (xs : List A) (at : ℕ) → slice_get xs at ≡ None → drop at xs ≡ []
none_behind [] zero is = refl
none_behind [] (suc at) is = refl
none_behind (x ∷ xs) zero is = cc
none_behind (x ∷ xs) (suc at) is = none_behind xs at is

passed_none : (elements : List ℕ) → passed elements [] ≡ []
passed_none [] = refl
passed_none (o ∷ elements) = refl

stepped : (slot : Slot) (o : ℕ) (elements : List ℕ) (slots : List Slot) → passed (o ∷ elements) (slot ∷ slots) ≡ kept_of slot o ++ passed elements slots
stepped slot o elements slots = by_test (is_true slot)
  where
    by_test : (b : Bool) → (if b then o ∷ passed elements slots else passed elements slots) ≡ (if b then o ∷ [] else []) ++ passed elements slots
    by_test true = refl
    by_test false = refl

-- an element more is passed
pub passed_on : (elements : List ℕ) (slots : List Slot) (at : ℕ) (slot : Slot) (before after whole : List ℕ) → whole ≡ before ++ passed (drop at elements) (drop at slots) → at < length elements → Some slot ≡ slice_get slots at → after ≡ before ++ kept_of slot (get_or elements at 0) → whole ≡ after ++ passed (drop (at + 1) elements) (drop (at + 1) slots)
passed_on elements slots at slot before after whole so_far within is more =
    let cons : drop at elements ≡ get_or elements at 0 ∷ drop (at + 1) elements = rw add-one (drop-cons elements at 0 within) in
    let slot_cons : drop at slots ≡ slot ∷ drop (at + 1) slots = rw add-one (slots_behind slots at slot (sym is)) in
    let step : passed (drop at elements) (drop at slots) ≡ kept_of slot (get_or elements at 0) ++ passed (drop (at + 1) elements) (drop (at + 1) slots) = rw (cons, slot_cons) (stepped slot (get_or elements at 0) (drop (at + 1) elements) (drop (at + 1) slots)) in
    so_far ∙ (ap (λ l. before ++ l) step ∙ (sym (append_assoc before (kept_of slot (get_or elements at 0)) (passed (drop (at + 1) elements) (drop (at + 1) slots))) ∙ ap (λ l. l ++ passed (drop (at + 1) elements) (drop (at + 1) slots)) (sym more)))

pub passed_through : (elements : List ℕ) (slots : List Slot) (at : ℕ) (before whole : List ℕ) → whole ≡ before ++ passed (drop at elements) (drop at slots) → None ≡ slice_get slots at → before ≡ whole
passed_through elements slots at before whole so_far none =
    let over : passed (drop at elements) (drop at slots) ≡ [] = rw (none_behind slots at (sym none)) (passed_none (drop at elements)) in
    sym (so_far ∙ (ap (λ l. before ++ l) over ∙ append-nil before))

pub all_passed : (elements : List ℕ) (slots : List Slot) → passed (drop (length elements) elements) slots ≡ []
all_passed elements slots = rw (drop-length elements) refl

pub last_given : (o : ℕ) (slots : List Slot) (slot : Slot) → last_or o (slots ++ slot ∷ []) ≡ number_in slot
last_given o [] slot = refl
last_given o (s ∷ slots) slot = last_given (number_in s) slots slot

pub ruleset answers = (all_passed, last_given)

-- the elements of an array, whatever its kind
pub of_elements : (x : Option (ArrayKind (List ℕ) × List Slot)) (numbers : List ℕ) (next : List ℕ → Answer) → Some numbers ≡ option_map (λ a. map number_in a.1) x → or_mismatch x (λ a. next (map number_in a.1)) ≡ next numbers
of_elements None numbers next is = cc
of_elements (Some a) numbers next is = let same : numbers ≡ map number_in a.1 = cc in ap next (sym same)

pub no_array : (x : Option (ArrayKind (List ℕ) × List Slot)) (next : ArrayKind (List ℕ) × List Slot → Answer) → None ≡ option_map (λ a. map number_in a.1) x → or_mismatch x next ≡ throws incompatible_change
no_array None next is = refl
no_array (Some a) next is = cc
