-- A name of a class is read byte by byte.
use Rattle.std.proofs.Common.{◌≡◌, ℕ, ◌+◌, ◌<◌, ◌≤◌, Bool, true, false, not, cond, eqb, ◌&&◌, List, [], ◌∷◌, length, drop, get_or, refl, ap, ◌∙◌, drop-cons, add-one, arith, eq-eqb}
use Rattle.std.specs.List.{list_all, slice_split, onto_first}
use Rattle.std.proofs.Math.ListN.{drop_of_length-le}
use Rattle.std.proofs.lemmas.Bool.{ne_eqb}
use Rattle.class_model.specs.ClassNames.{may_stand, is_unqualified, is_class_name}

-- parts with / between them; the first is fresh where nothing of it is read yet
unfoldable pub are_parts : Bool → List ℕ → Bool
are_parts fresh [] = not fresh
are_parts fresh (b ∷ bytes) =
    cond (eqb b 47) (not fresh && are_parts true bytes) (may_stand b && are_parts false bytes)

-- the same of what is left of the first part and those behind it
abbrev are_left : Bool → List (List ℕ) → Bool
are_left fresh [] = true
are_left fresh (part ∷ parts) =
    (not (fresh && eqb (length part) 0) && list_all may_stand part) && list_all is_unqualified parts

left_fresh : (parts : List (List ℕ)) → are_left true parts ≡ list_all is_unqualified parts
unfolding is_unqualified
left_fresh [] = refl
left_fresh (part ∷ parts) = refl

ends : (fresh : Bool) → not fresh ≡ are_left fresh ([] ∷ [])
ends true = refl
ends false = refl

part_ends : (fresh : Bool) (parts : List (List ℕ)) → (not fresh && are_left true parts) ≡ are_left fresh ([] ∷ parts)
part_ends true parts = refl
part_ends false parts = left_fresh parts

join : (fresh empty a b c : Bool) → empty ≡ false → (a && (b && c)) ≡ ((not (fresh && empty) && (a && b)) && c)
join true true a b c e = absurd (let no : true ≡ false = e in cc)
join true false true b c e = refl
join true false false b c e = refl
join false empty true b c e = refl
join false empty false b c e = refl

goes_on : (fresh : Bool) (b : ℕ) (parts : List (List ℕ)) → (may_stand b && are_left false parts) ≡ are_left fresh (onto_first b parts)
goes_on fresh b [] = join fresh (eqb (length (b ∷ [])) 0) (may_stand b) true true (ne_eqb (length (b ∷ [])) 0 (λ e. absurd (omega arith)))
goes_on fresh b (part ∷ parts) =
    join fresh (eqb (length (b ∷ part)) 0) (may_stand b) (list_all may_stand part) (list_all is_unqualified parts) (ne_eqb (length (b ∷ part)) 0 (λ e. absurd (omega arith)))

more_split : (fresh slash more more_fresh : Bool) (b : ℕ) (rest : List (List ℕ)) → more_fresh ≡ are_left true rest → more ≡ are_left false rest
    → cond slash (not fresh && more_fresh) (may_stand b && more) ≡ are_left fresh (cond slash ([] ∷ rest) (onto_first b rest))
more_split fresh true more more_fresh b rest is_fresh is = ap (λ p. not fresh && p) is_fresh ∙ part_ends fresh rest
more_split fresh false more more_fresh b rest is_fresh is = ap (λ p. may_stand b && p) is ∙ goes_on fresh b rest

parts_split : (fresh : Bool) (bytes : List ℕ) → are_parts fresh bytes ≡ are_left fresh (slice_split (λ b. eqb b 47) bytes)
unfolding are_parts
parts_split fresh [] = ends fresh
parts_split fresh (b ∷ bytes) =
    more_split fresh (eqb b 47) (are_parts false bytes) (are_parts true bytes) b (slice_split (λ c. eqb c 47) bytes) (parts_split true bytes) (parts_split false bytes)

-- a name of a class is parts, of which the first is fresh
pub parts_name : (bytes : List ℕ) → are_parts true bytes ≡ is_class_name bytes
unfolding is_class_name
parts_name bytes = parts_split true bytes ∙ left_fresh (slice_split (λ b. eqb b 47) bytes)

item : (name : List ℕ) (i b : ℕ) → i < length name → b ≡ get_or name i 0 → drop i name ≡ b ∷ drop (i + 1) name
item name i b within is = drop-cons name i 0 within ∙ rw (← is, add-one) refl

-- what the next byte makes of the parts that are left
pub parts_slash : (fresh : Bool) (name : List ℕ) (i b : ℕ) → i < length name → b ≡ get_or name i 0 → b ≡ 47
    → are_parts fresh (drop i name) ≡ (not fresh && are_parts true (drop (i + 1) name))
unfolding are_parts
parts_slash fresh name i b within is e = rw (item name i b within is, eq-eqb b 47 e) refl

pub parts_byte : (fresh : Bool) (name : List ℕ) (i b : ℕ) → i < length name → b ≡ get_or name i 0 → (b ≡ 47 → ⊥)
    → are_parts fresh (drop i name) ≡ (may_stand b && are_parts false (drop (i + 1) name))
unfolding are_parts
parts_byte fresh name i b within is e = rw (item name i b within is, ne_eqb b 47 e) refl

pub parts_end : (fresh : Bool) (name : List ℕ) (i : ℕ) → length name ≤ i → are_parts fresh (drop i name) ≡ not fresh
unfolding are_parts
parts_end fresh name i past = rw (drop_of_length-le name past) refl
