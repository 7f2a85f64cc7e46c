-- Numbers of texts, equal where the texts are.
use Rattle.std.proofs.Common.{◌≡◌, ℕ, cond, List, Option, Some, None, sym, ap, subst, ◌∙◌, ◌==◌, inl, inr, arith}
use Rattle.std.specs.Prelude.{◌⊎◌}
use Rattle.std.specs.BTreeMap.{get}
use Rattle.std.specs.Map.{update}
use Rattle.std.specs.Ordering.{nat_cmp, is_eq}
use Rattle.std.specs.Str.{bytes_eq}
use Rattle.std.proofs.lemmas.Bool.{cases_Bool}
use Rattle.std.proofs.lemmas.Bool.Decides.{same_from_decides, Decides-eqb, nat_tests}
use Rattle.std.proofs.lemmas.Slice.Eq.{bytes_eq-Decides}
use Rattle.class_model.specs.declared.constant_pool.Pool.{Pool}
use Rattle.class_text.specs.Attributes.{text_or_empty}
use Rattle.const_pool.specs.declared.text_numbers.TextNumbers.{TextNumbers}
use Rattle.const_pool.specs.TextNumbers.{number_in, AreNumbersOf, Grows}

-- A text that had no number gets one, and the others keep theirs.
pub kept_beside : (old new : List ℕ → Option ℕ) (text : List ℕ) (fresh : ℕ) → old text ≡ None → ((q : List ℕ) → new q ≡ update bytes_eq old text (Some fresh) q)
    → (other : List ℕ) (number : ℕ) → old other ≡ Some number → new other ≡ Some number
kept_beside old new text fresh none is other number e = is other ∙ elim (cases_Bool (bytes_eq text other)) [
  | inl t ↦ absurd (
      let same : text ≡ other = (bytes_eq-Decides text other).0 t in
      let some : old text ≡ Some number = ap old same ∙ e in
      cc)
  | inr f ↦ rw f e
]

pub added_alone : (old new : List ℕ → Option ℕ) (text : List ℕ) (fresh : ℕ) → ((q : List ℕ) → new q ≡ update bytes_eq old text (Some fresh) q)
    → (other : List ℕ) (number : ℕ) → new other ≡ Some number → (old other ≡ Some number) ⊎ ((other ≡ text) × (number ≡ fresh))
added_alone old new text fresh is other number e = elim (cases_Bool (bytes_eq text other)) [
  | inl t ↦
      let same : text ≡ other = (bytes_eq-Decides text other).0 t in
      let some : Some fresh ≡ Some number = rw t at (sym (is other) ∙ e) in
      let number_is : number ≡ fresh = cc in
      inr (sym same, number_is)
  | inr f ↦ inl (rw f at (sym (is other) ∙ e))
]

pub is_eq-nat_cmp : (a b : ℕ) → is_eq (nat_cmp a b) ≡ (a == b)
is_eq-nat_cmp a b = grind (arith, nat_tests)

-- A constant is entered with its number, and the others stay.
pub entered_alone : (old new : ℕ → Option ℕ) (P : ℕ → ℕ → Type 0) (constant given : ℕ) → P constant given → ((q : ℕ) → new q ≡ cond (is_eq (nat_cmp constant q)) (Some given) (old q))
    → (c number : ℕ) → new c ≡ Some number → (old c ≡ Some number) ⊎ P c number
entered_alone old new P constant given p is c number e = elim (cases_Bool (is_eq (nat_cmp constant c))) [
  | inl t ↦
      let same : constant ≡ c = (Decides-eqb constant c).0 (sym (is_eq-nat_cmp constant c) ∙ t) in
      let some : Some given ≡ Some number = rw t at (sym (is c) ∙ e) in
      let number_is : given ≡ number = cc in
      inr (subst (λ (k : ℕ). P k number) same (subst (λ (n : ℕ). P constant n) number_is p))
  | inr f ↦ inl (rw f at (sym (is c) ∙ e))
]

-- the numbers after the text of a constant was asked for
pub grown : (pool : Pool) (old new : TextNumbers) (constant : ℕ) → AreNumbersOf pool old
    → ((text : List ℕ) (number : ℕ) → number_in old text ≡ Some number → number_in new text ≡ Some number)
    → ((text : List ℕ) (number : ℕ) → number_in new text ≡ Some number → (number_in old text ≡ Some number) ⊎ ((text ≡ text_or_empty pool constant) × (number ≡ constant)))
    → ((c number : ℕ) → get nat_cmp new.by_constant c ≡ Some number → (get nat_cmp old.by_constant c ≡ Some number) ⊎ (number_in new (text_or_empty pool c) ≡ Some number))
    → Grows pool old new
grown pool old new constant are kept added entered = record {
  numbers = record {
    texts = λ text number e. elim (added text number e) [ inl was ↦ are.texts text number was | inr one ↦ ap (text_or_empty pool) one.1 ∙ sym one.0 ];
    constants = λ c number e. elim (entered c number e) [ inl was ↦ kept (text_or_empty pool c) number (are.constants c number was) | inr one ↦ one ];
  };
  kept = kept;
}

pub grows_on : (pool : Pool) (first second third : TextNumbers) → Grows pool first second → Grows pool second third → Grows pool first third
grows_on pool first second third one two = record {
  numbers = two.numbers;
  kept = λ text number e. two.kept text number (one.kept text number e);
}

-- Numbers are equal exactly where the texts are.
pub number_tells : (pool : Pool) (numbers : TextNumbers) (s t : List ℕ) (m n : ℕ) → AreNumbersOf pool numbers → number_in numbers s ≡ Some m → number_in numbers t ≡ Some n → (n == m) ≡ bytes_eq s t
number_tells pool numbers s t m n are of_s of_t =
    let forth : n ≡ m → s ≡ t = λ e. sym (are.texts s m of_s) ∙ ap (text_or_empty pool) (sym e) ∙ are.texts t n of_t in
    let back : s ≡ t → n ≡ m = λ e. (let both : Some n ≡ Some m = sym of_t ∙ ap (number_in numbers) (sym e) ∙ of_s in cc) in
    let by_number = Decides-eqb n m in
    let by_text = bytes_eq-Decides s t in
    same_from_decides (n == m) (bytes_eq s t) by_number (λ e. back (by_text.0 e), λ e. by_text.1 (forth e))
