-- Lists of bytes that are cut at a byte.
use Rattle.std.proofs.Common.{◌≡◌, ℕ, ◌<◌, ◌==◌, Bool, true, false, if◌then◌else◌, List, [], ◌∷◌, ◌++◌, length, map, cond, refl, sym, ap, ap₂, ◌∙◌, arith}
use Rattle.std.specs.List.{onto_first, slice_split}
use Rattle.std.proofs.lemmas.Bool.{eqb-true, eqb-false, eq-eqb}
use Rattle.std.proofs.lemmas.List.Splits.{length-slice_split}
use Rattle.out_store.specs.Names.{Lacks}

pub lacks_append : (c : ℕ) (xs ys : List ℕ) → Lacks c xs → Lacks c ys → Lacks c (xs ++ ys)
lacks_append c [] ys h k = k
lacks_append c (x ∷ xs) ys h k = (h.0, lacks_append c xs ys h.1 k)

clash : (c x : ℕ) → c ≡ x → (x == c) ≡ false → ⊥
clash c x e h = eqb-false x c h (sym e)

-- a list is cut at the first such byte in one way alone
pub first_cut : (c : ℕ) (xs ys v w : List ℕ) → Lacks c xs → Lacks c ys → xs ++ c ∷ v ≡ ys ++ c ∷ w → (xs ≡ ys) × (v ≡ w)
first_cut c [] [] v w h k e = (refl, (cc))
first_cut c [] (y ∷ ys) v w h k e = let same : c ≡ y = cc in absurd (clash c y same k.0)
first_cut c (x ∷ xs) [] v w h k e = let same : c ≡ x = cc in absurd (clash c x same h.0)
first_cut c (x ∷ xs) (y ∷ ys) v w h k e =
    let first : x ≡ y = cc in
    let rest : xs ++ c ∷ v ≡ ys ++ c ∷ w = cc in
    let both = first_cut c xs ys v w h.1 k.1 rest in
    (ap₂ (λ (z : ℕ) (zs : List ℕ). z ∷ zs) first both.0, both.1)

pub not_lacking : (c : ℕ) (xs v : List ℕ) → Lacks c (xs ++ c ∷ v) → ⊥
not_lacking c [] v h = clash c c refl h.0
not_lacking c (x ∷ xs) v h = not_lacking c xs v h.1

-- ---- one byte in the place of another

exchanged : (from to b : ℕ) → (b == to) ≡ false → (if (if b == from then to else b) == to then from else (if b == from then to else b)) ≡ b
exchanged from to b lacks = elim (b == from) as (λ t. (b == from) ≡ t → (if (if t then to else b) == to then from else (if t then to else b)) ≡ b) [
  | true ↦ λ is. ap (λ t. if t then from else to) (eq-eqb to to refl) ∙ sym (eqb-true b from is)
  | false ↦ λ is. ap (λ t. if t then from else b) lacks
] refl

abbrev pub exchange : ℕ → ℕ → List ℕ → List ℕ
exchange from to xs = map (λ b. if b == from then to else b) xs

pub exchange-exchange : (from to : ℕ) (xs : List ℕ) → Lacks to xs → exchange to from (exchange from to xs) ≡ xs
exchange-exchange from to [] h = refl
exchange-exchange from to (x ∷ xs) h = ap₂ (λ (z : ℕ) (zs : List ℕ). z ∷ zs) (exchanged from to x h.0) (exchange-exchange from to xs h.1)

lacks_one : (from to b : ℕ) → (to == from) ≡ false → ((if b == from then to else b) == from) ≡ false
lacks_one from to b apart = elim (b == from) as (λ t. (b == from) ≡ t → ((if t then to else b) == from) ≡ false) [
  | true ↦ λ _. apart
  | false ↦ λ is. is
] refl

pub lacks-exchange : (from to : ℕ) (xs : List ℕ) → (to == from) ≡ false → Lacks from (exchange from to xs)
lacks-exchange from to [] apart = tt
lacks-exchange from to (x ∷ xs) apart = (lacks_one from to x apart, lacks-exchange from to xs apart)

-- ---- parts

onto_first-append : (x : ℕ) (parts more : List (List ℕ)) → 0 < length parts → onto_first x (parts ++ more) ≡ onto_first x parts ++ more
onto_first-append x [] more some = absurd (omega (arith, some))
onto_first-append x (part ∷ parts) more some = refl

some_part : (p : ℕ → Bool) (xs : List ℕ) → 0 < length (slice_split p xs)
some_part p xs = let some = length-slice_split p xs in omega (arith, some)

-- a cut at a byte that separates
pub split-append : (p : ℕ → Bool) (xs : List ℕ) (y : ℕ) (ys : List ℕ) → p y ≡ true → slice_split p (xs ++ y ∷ ys) ≡ slice_split p xs ++ slice_split p ys
split-append p [] y ys cuts = ap (λ b. cond b ([] ∷ slice_split p ys) (onto_first y (slice_split p ys))) cuts
split-append p (x ∷ xs) y ys cuts =
    let rest = split-append p xs y ys cuts in
    elim (p x) as (λ b. cond b ([] ∷ slice_split p (xs ++ y ∷ ys)) (onto_first x (slice_split p (xs ++ y ∷ ys))) ≡ cond b ([] ∷ slice_split p xs) (onto_first x (slice_split p xs)) ++ slice_split p ys) [
      | true ↦ ap (λ parts. [] ∷ parts) rest
      | false ↦ ap (onto_first x) rest ∙ onto_first-append x (slice_split p xs) (slice_split p ys) (some_part p xs)
    ]

-- the last part goes on with these bytes
abbrev pub onto_last : List ℕ → List (List ℕ) → List (List ℕ)
onto_last ys [] = ys ∷ []
onto_last ys (part ∷ []) = (part ++ ys) ∷ []
onto_last ys (part ∷ next ∷ parts) = part ∷ onto_last ys (next ∷ parts)

behind_empty : (ys : List ℕ) (parts : List (List ℕ)) → 0 < length parts → [] ∷ onto_last ys parts ≡ onto_last ys ([] ∷ parts)
behind_empty ys [] some = absurd (omega (arith, some))
behind_empty ys (part ∷ parts) some = refl

first_and_last : (x : ℕ) (ys : List ℕ) (parts : List (List ℕ)) → 0 < length parts → onto_first x (onto_last ys parts) ≡ onto_last ys (onto_first x parts)
first_and_last x ys [] some = absurd (omega (arith, some))
first_and_last x ys (part ∷ []) some = refl
first_and_last x ys (part ∷ next ∷ parts) some = refl

-- bytes behind that do not separate
pub split-onto_last : (p : ℕ → Bool) (xs ys : List ℕ) → slice_split p ys ≡ ys ∷ [] → slice_split p (xs ++ ys) ≡ onto_last ys (slice_split p xs)
split-onto_last p [] ys whole = whole
split-onto_last p (x ∷ xs) ys whole =
    let rest = split-onto_last p xs ys whole in
    elim (p x) as (λ b. cond b ([] ∷ slice_split p (xs ++ ys)) (onto_first x (slice_split p (xs ++ ys))) ≡ onto_last ys (cond b ([] ∷ slice_split p xs) (onto_first x (slice_split p xs)))) [
      | true ↦ ap (λ parts. [] ∷ parts) rest ∙ behind_empty ys (slice_split p xs) (some_part p xs)
      | false ↦ ap (onto_first x) rest ∙ first_and_last x ys (slice_split p xs) (some_part p xs)
    ]

-- bytes none of which separates are one part
pub one_part : (c : ℕ) (xs : List ℕ) → Lacks c xs → slice_split (λ b. b == c) xs ≡ xs ∷ []
one_part c [] h = refl
one_part c (x ∷ xs) h = rw (h.0, one_part c xs h.1) refl
