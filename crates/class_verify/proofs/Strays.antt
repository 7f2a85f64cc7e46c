-- The least offset of a frame at which no instruction begins, frame by frame.
use Rattle.std.proofs.Common.{◌≡◌, ℕ, ◌+◌, ◌<◌, ◌≤◌, Bool, true, false, not, cond, List, [], ◌∷◌, ◌++◌, length, take, map, filter, get_or, Option, Some, None, refl, sym, ap, ◌∙◌, subst, inl, inr, arith}
use Rattle.std.specs.Prelude.{Contains}
use Rattle.std.proofs.lemmas.List.{take_more, take_all, map-append, append-nil}
use Rattle.std.proofs.lemmas.List.Elements.{filter-append, Contains-append_left, Contains-push, Contains-push_cases}
use Rattle.std.proofs.lemmas.Bool.{cases_lt, cases_Bool}
use Rattle.class_verify.specs.declared.frames.Written.{Written}
use Rattle.class_verify.specs.Misfits.{strays}
use Rattle.class_verify.specs.Places.{begins}
use Rattle.class_verify.specs.Walks.{IsLeast, IsLeastStray, least_of}

-- a further offset
added : (xs : List ℕ) (least : Option ℕ) (x : ℕ) → IsLeast xs least → IsLeast (xs ++ x ∷ []) (Some (least_of least x))
added xs None x none =
    (Contains-push xs x, λ other c. elim (Contains-push_cases xs x other c) [ inl before ↦ absurd (none other before) | inr same ↦ omega arith ])
added xs (Some pc) x is = (
  elim (cases_lt x pc) [
    | inl less ↦ subst (λ k. Contains (xs ++ x ∷ []) k) (sym (omega arith)) (Contains-push xs x)
    | inr more ↦ subst (λ k. Contains (xs ++ x ∷ []) k) (sym (omega arith)) (Contains-append_left xs (x ∷ []) pc is.0)
  ],
  λ other c. elim (Contains-push_cases xs x other c) [ inl before ↦ (let low : pc ≤ other = is.1 other before in omega arith) | inr same ↦ omega arith ],
)

strays_more : (code : List ℕ) (frames : List Written) (i : ℕ) (w : Written) → i < length frames → w ≡ get_or frames i w
    → strays code (take (i + 1) frames) ≡ strays code (take i frames) ++ cond (not (begins code w.at)) (w.at ∷ []) []
unfolding strays
strays_more code frames i w h e =
    let p : Written → Bool = λ v. not (begins code v.at) in
    let at : Written → ℕ = λ v. v.at in
    ap (λ ws. map at (filter p ws)) (take_more frames i w h ∙ ap (λ v. take i frames ++ v ∷ []) (sym e))
    ∙ ap (map at) (filter-append p (take i frames) (w ∷ []))
    ∙ map-append at (filter p (take i frames)) (filter p (w ∷ []))
    ∙ ap (λ ws. map at (filter p (take i frames)) ++ ws) (one (not (begins code w.at)))
  where
    one : (b : Bool) → map (λ (v : Written). v.at) (cond b (w ∷ []) []) ≡ cond b (w.at ∷ []) []
    one true = refl
    one false = refl

pub stray_kept : (code : List ℕ) (frames : List Written) (i : ℕ) (w : Written) (least : Option ℕ) → i < length frames → w ≡ get_or frames i w
    → begins code w.at ≡ true → IsLeastStray code (take i frames) least → IsLeastStray code (take (i + 1) frames) least
stray_kept code frames i w least h e b is =
    subst (λ xs. IsLeast xs least) (sym (strays_more code frames i w h e ∙ ap (λ c. strays code (take i frames) ++ cond (not c) (w.at ∷ []) []) b ∙ append-nil (strays code (take i frames)))) is

pub stray_added : (code : List ℕ) (frames : List Written) (i : ℕ) (w : Written) (least : Option ℕ) → i < length frames → w ≡ get_or frames i w
    → begins code w.at ≡ false → IsLeastStray code (take i frames) least → IsLeastStray code (take (i + 1) frames) (Some (least_of least w.at))
stray_added code frames i w least h e b is =
    subst (λ xs. IsLeast xs (Some (least_of least w.at))) (sym (strays_more code frames i w h e ∙ ap (λ c. strays code (take i frames) ++ cond (not c) (w.at ∷ []) []) b))
    (added (strays code (take i frames)) least w.at is)

-- with or without a further frame
pub stray_next : (code : List ℕ) (frames : List Written) (i : ℕ) (w : Written) (least found : Option ℕ) → i < length frames → w ≡ get_or frames i w
    → found ≡ cond (begins code w.at) least (Some (least_of least w.at)) → IsLeastStray code (take i frames) least → IsLeastStray code (take (i + 1) frames) found
stray_next code frames i w least found h e f is =
    elim (cases_Bool (begins code w.at)) [
      | inl marked ↦
          subst (IsLeastStray code (take (i + 1) frames)) (sym (f ∙ ap (λ b. cond b least (Some (least_of least w.at))) marked)) (stray_kept code frames i w least h e marked is)
      | inr stray ↦
          subst (IsLeastStray code (take (i + 1) frames)) (sym (f ∙ ap (λ b. cond b least (Some (least_of least w.at))) stray)) (stray_added code frames i w least h e stray is)
    ]

pub stray_start : (code : List ℕ) (frames : List Written) → IsLeastStray code (take 0 frames) None
unfolding strays
stray_start code frames other c = absurd (omega (arith, c.1))

pub stray_end : (code : List ℕ) (frames : List Written) (i : ℕ) (least : Option ℕ) → length frames ≤ i → IsLeastStray code (take i frames) least → IsLeastStray code frames least
stray_end code frames i least h is = subst (λ fs. IsLeastStray code fs least) (take_all i frames h) is
