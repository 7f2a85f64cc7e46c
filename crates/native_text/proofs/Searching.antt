-- Looking for a part of a text by how far it stands at each place.
use Rattle.std.proofs.Common.{◌≡◌, ℕ, suc, ◌+◌, ◌<◌, ◌≤◌, Bool, true, false, List, [], ◌∷◌, ◌++◌, length, drop, get_or, inl, inr, refl, sym, ap, ◌∙◌, subst, arith, length-append, length-drop}
use Rattle.std.specs.Prelude.{◌⊎◌, slice_index, nat_eq, Some, None}
use Rattle.std.specs.List.{starts_with}
use Rattle.std.proofs.lemmas.Bool.Decides.{Decides-eqb, nat_tests}
use Rattle.std.proofs.lemmas.Slice.Eq.{starts_is}
use Rattle.std.proofs.lemmas.List.Prefix.{at_from_reads, at_reads, front_fits}
use Rattle.std.proofs.Math.ListN.{get_or-append}
use Rattle.std.proofs.Math.Seq.{drop-cons, get_or-append_seam}
use Rattle.native_model.specs.Texts.{place_from}
use Rattle.native_text.specs.Searching.{Reaches, IsOverlaps}

by_test : (b : Bool) → (b ≡ true → ⊥) → b ≡ false
by_test true never = absurd (never refl)
by_test false never = refl

pub all_there : (part text : List ℕ) (at : ℕ) → Reaches part text at (length part) → starts_with nat_eq (drop at text) part ≡ true
all_there part text at reach =
    (starts_is Decides-eqb (drop at text) part (starts_with nat_eq (drop at text) part) refl).1 (drop (at + length part) text) (at_from_reads 0 text part at reach.in_text reach.agrees)

shown : (part text rest : List ℕ) (at n : ℕ) → Reaches part text at n → n < length part → at ≤ length text → drop at text ≡ part ++ rest → ⊥
shown part text rest at n reach short within is =
    let fits : length part ≤ length (drop at text) = front_fits (drop at text) part rest is in
    let inside : at + n < length text = omega (arith, fits, length-drop at text, short) in
    reach.ends short inside (at_reads 0 text part at rest is n short)

pub not_there : (part text : List ℕ) (at n : ℕ) → Reaches part text at n → n < length part → at ≤ length text → starts_with nat_eq (drop at text) part ≡ false
not_there part text at n reach short within =
    by_test (starts_with nat_eq (drop at text) part)
    (λ e. shown part text (drop (length part) (drop at text)) at n reach short within
    ((starts_is Decides-eqb (drop at text) part (starts_with nat_eq (drop at text) part) refl).0 e))

next_from : (at u : ℕ) (part units : List ℕ) → starts_with nat_eq (u ∷ units) part ≡ false → place_from at part (u ∷ units) ≡ place_from (at + 1) part units
unfolding place_from
next_from at u part units e = rw e refl

here_from : (at u : ℕ) (part units : List ℕ) → starts_with nat_eq (u ∷ units) part ≡ true → place_from at part (u ∷ units) ≡ Some at
unfolding place_from
here_from at u part units e = rw e refl

-- The part doesn't stand at a place: it is looked for behind that.
pub looked_behind : (part text : List ℕ) (at n : ℕ) → Reaches part text at n → n < length part → at < length text → place_from at part (drop at text) ≡ place_from (at + 1) part (drop (at + 1) text)
looked_behind part text at n reach short within =
    let cons : drop at text ≡ get_or text at 0 ∷ drop (suc at) text = drop-cons text at 0 within in
    let other : starts_with nat_eq (get_or text at 0 ∷ drop (suc at) text) part ≡ false = subst (λ l. starts_with nat_eq l part ≡ false) cons (not_there part text at n reach short (omega arith)) in
    let next : at + 1 ≡ suc at = omega arith in
    let same : drop (at + 1) text ≡ drop (suc at) text = ap (λ k. drop k text) next in
    ap (place_from at part) cons ∙ (next_from at (get_or text at 0) part (drop (suc at) text) other ∙ ap (place_from (at + 1) part) (sym same))

-- It stands there.
pub found_here : (part text : List ℕ) (at : ℕ) → Reaches part text at (length part) → at < length text → place_from at part (drop at text) ≡ Some at
found_here part text at reach within =
    let cons : drop at text ≡ get_or text at 0 ∷ drop (suc at) text = drop-cons text at 0 within in
    let there : starts_with nat_eq (get_or text at 0 ∷ drop (suc at) text) part ≡ true = subst (λ l. starts_with nat_eq l part ≡ true) cons (all_there part text at reach) in
    ap (place_from at part) cons ∙ here_from at (get_or text at 0) part (drop (suc at) text) there

none_left : (part : List ℕ) (at : ℕ) → 0 < length part → place_from at part [] ≡ None
unfolding place_from
none_left [] at some = absurd (omega arith)
none_left (p ∷ part) at some = grind (arith, nat_tests)

pub looked_through : (part text : List ℕ) (at : ℕ) → 0 < length part → length text ≤ at → place_from at part (drop at text) ≡ None
looked_through part text at some over = ap (place_from at part) (nothing (drop at text) (omega (arith, length-drop at text))) ∙ none_left part at some
  where
    nothing : (l : List ℕ) → length l ≡ 0 → l ≡ []
    nothing [] e = refl
    nothing (u ∷ l) e = absurd (omega arith)

-- An empty part stands at the first place.
pub empty_here : (part text : List ℕ) → length part ≡ 0 → place_from 0 part text ≡ Some 0
unfolding place_from
empty_here [] [] e = refl
empty_here [] (u ∷ text) e = refl
empty_here (p ∷ part) text e = absurd (omega arith)

-- one place more
pub overlap_added : (part overlaps : List ℕ) (n : ℕ) → IsOverlaps part overlaps → length overlaps < length part → Reaches part part (length overlaps) n → IsOverlaps part (overlaps ++ n ∷ [])
overlap_added part overlaps n told short reach = record {
  within = omega (arith, length-append overlaps (n ∷ []), short);
  reaches = λ k some below. by_place k some (le_cases k (length overlaps) (omega (arith, length-append overlaps (n ∷ []), below)));
}
  where
    le_cases : (k m : ℕ) → k ≤ m → (k < m) ⊎ (k ≡ m)
    le_cases k m le = grind arith

    by_place : (k : ℕ) → 0 < k → (k < length overlaps) ⊎ (k ≡ length overlaps) → Reaches part part k (slice_index (overlaps ++ n ∷ []) k)
    by_place k some (inl below) = subst (λ v. Reaches part part k v) (sym (get_or-append overlaps (n ∷ []) 0 k below)) (told.reaches k some below)
    by_place k some (inr is) =
        let last : slice_index (overlaps ++ n ∷ []) (length overlaps) ≡ n = get_or-append_seam overlaps n [] 0 in
        subst (λ m. Reaches part part m (slice_index (overlaps ++ n ∷ []) m)) (sym is) (subst (λ v. Reaches part part (length overlaps) v) (sym last) reach)

-- nothing is told of no place but the first
pub first_overlap : (part : List ℕ) (n : ℕ) → 0 < length part → IsOverlaps part ([] ++ n ∷ [])
first_overlap part n some = record { within = omega arith; reaches = λ k from below. absurd (omega arith) }

pub ruleset searching = (empty_here, found_here, looked_behind, looked_through, overlap_added, first_overlap)
