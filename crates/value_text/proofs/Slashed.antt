-- A text stays UTF-8 when a slash takes the place of each dot.
use Rattle.std.proofs.Common.{◌≡◌, ℕ, suc, ◌<◌, ◌≤◌, true, List, [], ◌∷◌, length, get_or, IsUtf8, inl, inr, refl, sym, ap, subst, arith, append-nil, ne_eqb}
use Rattle.std.proofs.lemmas.Bool.{and_parts, cases_lt, cases_eq}
use Rattle.std.proofs.lemmas.List.{map-append}
use Rattle.std.proofs.lemmas.Str.{IsUtf8-append, IsUtf8-nil, IsUtf8-encode, encode_ascii, inside_one}
use lib.Utf8.{scalar, scalars, encode, encodes, low_scalar}
use Rattle.value_text.specs.Texts.{slashed}

ascii : (x : ℕ) → x < 128 → IsUtf8 (x ∷ [])
ascii x small = subst IsUtf8 (encode_ascii x small) (IsUtf8-encode x (low_scalar x (omega arith)))

one_slashed : (c : ℕ) → c < 128 → IsUtf8 (slashed (c ∷ []))
one_slashed c small = elim (cases_eq c 46) [
  | inl same ↦ rw same (ascii 47 (omega arith))
  | inr other ↦ rw (ne_eqb c 46 other) (ascii c small)
]

high : (xs : List ℕ) → ((k : ℕ) → k < length xs → 128 ≤ get_or xs k 0) → slashed xs ≡ xs
high [] h = refl
high (x ∷ xs) h =
    let first : 128 ≤ x = h 0 (omega arith) in
    rw (ne_eqb x 46 (λ e. omega arith)) (ap (λ l. x ∷ l) (high xs (λ k below. h (suc k) (omega arith))))

slashed-encode : (c : ℕ) → scalar c ≡ true → IsUtf8 (slashed (encode c))
slashed-encode c ok = elim (cases_lt c 128) [
  | inl small ↦ rw (encode_ascii c small) (one_slashed c small)
  | inr big ↦
      let above : (k : ℕ) → k < length (encode c) → 128 ≤ get_or (encode c) k 0 = λ k below. elim (cases_lt (get_or (encode c) k 0) 128) [
        | inl low ↦ absurd (omega (arith, inside_one c [] (encode c) k (sym (append-nil _)) below low))
        | inr h ↦ h
      ] in
      subst IsUtf8 (sym (high (encode c) above)) (IsUtf8-encode c ok)
]

slashed-encodes : (cs : List ℕ) → scalars cs ≡ true → IsUtf8 (slashed (encodes cs))
slashed-encodes [] e = IsUtf8-nil
slashed-encodes (c ∷ cs) e =
    let p = and_parts _ _ e in
    subst IsUtf8 (sym (map-append _ (encode c) (encodes cs))) (IsUtf8-append _ _ (slashed-encode c p.0) (slashed-encodes cs p.1))

pub IsUtf8-slashed : (s : List ℕ) → IsUtf8 s → IsUtf8 (slashed s)
IsUtf8-slashed s u = subst (λ l. IsUtf8 (slashed l)) u.1.1 (slashed-encodes u.0 u.1.0)
