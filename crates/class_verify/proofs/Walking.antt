-- A walk goes from point to point.
use Rattle.std.proofs.Common.{◌≡◌, ℕ, zero, suc, ◌≤◌, Some, None, refl, sym, ap, ◌∙◌, inl, inr, arith}
use Rattle.std.specs.Prelude.{option_and_then}
use Rattle.std.proofs.lemmas.Bool.{cases_eq, cases_lt}
use Rattle.class_verify.specs.declared.cause.Cause.{Cause}
use Rattle.class_verify.specs.Bodies.{Body, Point, first_point, following, point_of}
use Rattle.class_verify.specs.Misfits.{cause_at}
use Rattle.class_verify.specs.Walks.{NoneAtAll, IsFirstFound, Stands}
use Rattle.class_verify.proofs.Points.{none_behind, rises_to}

pub starts : (body : Body) → Stands body (first_point body)
unfolding point_of
starts body = record { number = zero; there = refl; before = λ n q cause h e f. absurd (omega arith) }

-- a point at which there is no cause has none, as the others before
none_up_to : (body : Body) (p : Point) (s : Stands body p) → cause_at body p ≡ None
    → (n : ℕ) (q : Point) (cause : Cause) → n ≤ s.number → point_of body n ≡ Some q → cause_at body q ≡ Some cause → ⊥
none_up_to body p s none n q cause h e f =
    elim (cases_eq n s.number) [
      | inl same ↦
          (let one : Some q ≡ Some p = sym e ∙ ap (point_of body) same ∙ s.there in
          let equal : q ≡ p = cc in
          let both : None ≡ Some cause = sym none ∙ sym (ap (cause_at body) equal) ∙ f in cc)
      | inr other ↦ s.before n q cause (omega arith) e f
    ]

pub goes_on : (body : Body) (p q : Point) → Stands body p → cause_at body p ≡ None → following body p ≡ Some q → Stands body q
unfolding point_of
goes_on body p q s none next = record {
  number = suc s.number;
  there = ap (option_and_then (following body)) s.there ∙ next;
  before = λ n r cause h e f. none_up_to body p s none n r cause (omega arith) e f;
}

pub ends : (body : Body) (p : Point) → Stands body p → cause_at body p ≡ None → following body p ≡ None → NoneAtAll body
unfolding point_of
ends body p s none next n q cause e f =
    elim (cases_lt s.number n) [
      | inl later ↦
          (let end : point_of body (suc s.number) ≡ None = ap (option_and_then (following body)) s.there ∙ next in
          let past : point_of body n ≡ None = none_behind body (suc s.number) n (omega arith) end in
          let both : None ≡ Some q = sym past ∙ e in cc)
      | inr before ↦ none_up_to body p s none n q cause before e f
    ]

pub finds : (body : Body) (p : Point) (cause : Cause) → Stands body p → cause_at body p ≡ Some cause → IsFirstFound body p.pc cause
finds body p cause s found = record {
  number = s.number;
  point = p;
  there = s.there;
  place = refl;
  misfit = found;
  first = λ n q other e f.
      elim (cases_lt n s.number) [
        | inl before ↦ absurd (s.before n q other before e f)
        | inr later ↦ rises_to body s.number n p q later s.there e
      ];
}
