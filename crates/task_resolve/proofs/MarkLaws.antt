-- Marks of the ends of a name.
use Rattle.std.proofs.Common.{◌≡◌, ℕ, zero, suc, ◌+◌, ◌-◌, ◌<◌, ◌≤◌, nat_lt, ◌==◌, Bool, true, false, cond, ◌&&◌, ◌||◌, ◌⊎◌, inl, inr, List, [], ◌∷◌, ◌++◌, length, drop, get_or, refl, sym, ap, ap₂, subst, ◌∙◌, arith, rules}
use Rattle.std.proofs.lemmas.Grind.{common_steps, elements}
use Rattle.std.proofs.lemmas.Bool.Decides.{nat_tests}
use Rattle.std.proofs.Math.ListN.{length-append}
use Rattle.std.proofs.Math.Seq.{drop-cons}
use Rattle.task_resolve.specs.Matching.{fits, some_end, match_one, match_first, matches, ending}
use Rattle.task_resolve.specs.Marks.{AreMarks, is_any, next_mark}
use Rattle.task_resolve.specs.declared.request.Segment.{Segment}
use Rattle.task_resolve.specs.declared.request.Segment.TheVariants.{Literal, One, Any, Choice}

no_end : (names : List (List ℕ)) → ending names 0 ≡ []
no_end names = grind (arith, common_steps)

longer : (names : List (List ℕ)) (count : ℕ) → suc count ≤ length names → ending names (suc count) ≡ get_or names (length names - suc count) [] ∷ ending names count
longer names count within =
    let k = length names - suc count in
    let at : k < length names = omega arith in
    let next : suc k ≡ length names - count = omega arith in
    drop-cons names k [] at ∙ ap (λ (n : ℕ). get_or names k [] ∷ drop n names) next

positive : (count : ℕ) → nat_lt 0 (suc count) ≡ true
positive count = grind (arith, nat_tests)

not_zero : (count : ℕ) → (suc count == 0) ≡ false
not_zero count = grind (arith, nat_tests)

or_false : (b : Bool) → (b || false) ≡ b
or_false true = refl
or_false false = refl

module _ (rest : List Segment) (names : List (List ℕ)) (marks : List Bool) (are : AreMarks rest names marks) (last : Bool) where
  empty_mark : get_or marks 0 false ≡ matches rest []
  empty_mark = are.right 0 (omega arith) ∙ ap (matches rest) (no_end names)

  at_none : (segment : Segment) → next_mark segment names marks last 0 ≡ matches (segment ∷ rest) []
  unfolding next_mark matches
  at_none (Literal text) = refl
  at_none One = refl
  at_none Any = or_false (get_or marks 0 false) ∙ empty_mark
  at_none (Choice texts) = refl

  module _ (count : ℕ) (within : suc count ≤ length names) where
    abbrev name : List ℕ
    name = get_or names (length names - suc count) []

    one : (segment : Segment) → (nat_lt 0 (suc count) && fits segment name && get_or marks (suc count - 1) false) ≡ match_one segment (matches rest) (name ∷ ending names count)
    one segment =
        let same : suc count - 1 ≡ count = omega arith in
        ap₂ (λ (b : Bool) (n : ℕ). b && fits segment name && get_or marks n false) (positive count) same ∙ ap (λ b. fits segment name && b) (are.right count (omega arith))

    at_some : (segment : Segment) → last ≡ matches (segment ∷ rest) (ending names count) → next_mark segment names marks last (suc count) ≡ matches (segment ∷ rest) (name ∷ ending names count)
    unfolding next_mark matches
    at_some (Literal text) h = one (Literal text)
    at_some One h = one One
    at_some Any h =
        ap₂ (λ (a b : Bool). a || b) (are.right (suc count) within ∙ ap (matches rest) (longer names count within)) (ap (λ b. b && last) (positive count) ∙ h)
    at_some (Choice texts) h = one (Choice texts)

  pub marked : (segment : Segment) (count : ℕ) → count ≤ length names → (0 < count → last ≡ matches (segment ∷ rest) (ending names (count - 1))) → next_mark segment names marks last count ≡ matches (segment ∷ rest) (ending names count)
  marked segment zero within h = at_none segment ∙ ap (matches (segment ∷ rest)) (sym (no_end names))
  marked segment (suc count) within h =
      let same : suc count - 1 ≡ count = omega arith in
      at_some count within segment (h (omega arith) ∙ ap (λ (n : ℕ). matches (segment ∷ rest) (ending names n)) same)
      ∙ ap (matches (segment ∷ rest)) (sym (longer names count within))

-- one mark more
pub pushed : (f : ℕ → Bool) (xs : List Bool) (x : Bool) → ((k : ℕ) → k < length xs → get_or xs k false ≡ f k) → x ≡ f (length xs) → (k : ℕ) → k < length xs + 1 → get_or (xs ++ x ∷ []) k false ≡ f k
pushed f [] x all last zero within = last
pushed f [] x all last (suc k) within = absurd (omega arith)
pushed f (y ∷ ys) x all last zero within = all zero (omega arith)
pushed f (y ∷ ys) x all last (suc k) within = pushed (λ n. f (suc n)) ys x (λ n below. all (suc n) (omega arith)) last k (omega arith)

-- no segments match the empty end alone
pub none_match : (names : List (List ℕ)) (count : ℕ) → count ≤ length names → (count == 0) ≡ matches [] (ending names count)
unfolding matches
none_match names zero within = rw (no_end names) refl
none_match names (suc count) within = rw (longer names count within) (not_zero count)

-- marks that were made so far, from the empty end on
abbrev pub AreFilled : Segment → List (List ℕ) → List Bool → List Bool → ℕ → Bool → Type 0
AreFilled segment names marks items count last =
    (length items ≡ count)
    × ((segments : List Segment) → AreMarks segments names marks
    → ((k : ℕ) → k < count → get_or items k false ≡ matches (segment ∷ segments) (ending names k))
    × (0 < count → last ≡ matches (segment ∷ segments) (ending names (count - 1))))

pub further : (segment : Segment) (names : List (List ℕ)) (marks items new : List Bool) (count : ℕ) (last next : Bool) → length marks ≡ length names + 1 → count < length marks → new ≡ items ++ next ∷ []
    → next ≡ next_mark segment names marks last count → AreFilled segment names marks items count last → AreFilled segment names marks new (count + 1) next
further segment names marks items new count last next counted below is made filled =
    let size : length new ≡ count + 1 = ap length is ∙ length-append items (next ∷ []) ∙ ap (λ n. n + 1) filled.0 in (
      size,
      λ segments are.
          let f : ℕ → Bool = λ k. matches (segment ∷ segments) (ending names k) in
          let here : next ≡ f count = made ∙ marked segments names marks are last segment count (omega arith) (filled.1 segments are).1 in (
            λ k within. ap (λ (xs : List Bool). get_or xs k false) is
                ∙ pushed f items next (λ j b. (filled.1 segments are).0 j (omega (arith, filled.0, b))) (here ∙ ap f (sym filled.0)) k (omega (arith, filled.0, within)),
            λ _. let same : count ≡ count + 1 - 1 = omega arith in here ∙ ap f same,
          ),
    )

pub whole : (segment : Segment) (names : List (List ℕ)) (marks items : List Bool) (count : ℕ) (last : Bool) → count ≡ length names + 1 → AreFilled segment names marks items count last
    → (segments : List Segment) → AreMarks segments names marks → AreMarks (segment ∷ segments) names items
whole segment names marks items count last all filled segments are = record {
  counted = filled.0 ∙ all;
  right = λ k within. (filled.1 segments are).0 k (omega (arith, all, within));
}

pub started : (names : List (List ℕ)) (items : List Bool) (count : ℕ) → count ≡ length names + 1 → length items ≡ count → ((k : ℕ) → k < count → get_or items k false ≡ (k == 0)) → AreMarks [] names items
started names items count all counted is = record {
  counted = counted ∙ all;
  right = λ k within. is k (omega (arith, all, within)) ∙ none_match names k within;
}

-- the marks with one more of the segments
pub before : (segments : List Segment) (done : ℕ) (segment : Segment) (names : List (List ℕ)) (marks : List Bool) → done < length segments → segment ≡ get_or segments (length segments - 1 - done) segment
    → AreMarks (segment ∷ drop (length segments - done) segments) names marks → AreMarks (drop (length segments - (done + 1)) segments) names marks
before segments done segment names marks below is are =
    let k = length segments - (done + 1) in
    let place : length segments - 1 - done ≡ k = omega arith in
    let next : suc k ≡ length segments - done = omega arith in
    let within : k < length segments = omega arith in
    let whole : drop k segments ≡ segment ∷ drop (length segments - done) segments =
    drop-cons segments k segment within ∙ ap₂ (λ (s : Segment) (n : ℕ). s ∷ drop n segments) (ap (λ (n : ℕ). get_or segments n segment) (sym place) ∙ sym is) next in
    subst (λ (rest : List Segment). AreMarks rest names marks) (sym whole) are

same_default : (xs : List Bool) (k : ℕ) (d e : Bool) → k < length xs → get_or xs k d ≡ get_or xs k e
same_default [] k d e within = absurd (omega arith)
same_default (x ∷ xs) zero d e within = refl
same_default (x ∷ xs) (suc k) d e within = same_default xs k d e (omega arith)

-- the mark of the whole name
pub last_mark : (segments : List Segment) (done : ℕ) (names : List (List ℕ)) (marks : List Bool) (n : ℕ) (r : Bool) → length segments ≤ done → n ≡ length names → r ≡ get_or marks n r
    → AreMarks (drop (length segments - done) segments) names marks → r ≡ matches segments names
last_mark segments done names marks n r all is read are =
    let nothing : length segments - done ≡ 0 = omega arith in
    let rest : drop (length segments - done) segments ≡ segments = ap (λ (k : ℕ). drop k segments) nothing in
    let size = are.counted in
    let name : ending names n ≡ names = let none : length names - n ≡ 0 = omega (arith, is) in ap (λ (k : ℕ). drop k names) none in
    read ∙ same_default marks n r false (omega (arith, size, is)) ∙ are.right n (omega (arith, is)) ∙ ap₂ (λ (s : List Segment) (e : List (List ℕ)). matches s e) rest name
