-- Ranges that ended are forgotten.
use Rattle.std.proofs.Common.{◌≡◌, ℕ, zero, suc, inl, inr, Bool, true, false, cond, List, [], ◌∷◌, get_or, sym, ap, ◌∙◌, subst, arith}
use Rattle.std.specs.Prelude.{Contains, MatchBool}
use Rattle.std.specs.List.{filter, list_all}
use Rattle.std.proofs.lemmas.Bool.{cases_lt, cases_Bool, lt-ltb}
use Rattle.class_model.specs.declared.attribute_forms.Handler.{Handler}
use Rattle.class_verify.specs.declared.kinds.Kind.{Kind}
use Rattle.class_verify.specs.declared.sweep.Sweep.{Sweep}
use Rattle.class_verify.specs.Bodies.{Body}
use Rattle.class_verify.specs.Sweeps.{goes_on, is_kept, Swept, IsSwept, IsSettled}
use Rattle.class_verify.specs.Targets.{catches}
use Rattle.class_verify.proofs.Sweeping.{going_refuses}

later : {X : Type 0} (y : X) (xs : List X) (x : X) → Contains xs x → Contains (y ∷ xs) x
later y xs x c = (suc c.0, omega (arith, c.1), c.2)

-- what passes a test is among what is filtered by it
filter_has : {X : Type 0} (p : X → Bool) (xs : List X) (x : X) → Contains xs x → p x ≡ true → Contains (filter p xs) x
filter_has p [] x c e = absurd (omega (arith, c.1))
filter_has p (y ∷ xs) x (zero, within, same) e =
    let passes : p y ≡ true = ap p same ∙ e in
    subst (λ zs. Contains zs x) (sym (ap (λ b. cond b (y ∷ filter p xs) (filter p xs)) passes)) (0, omega arith, same)
filter_has p (y ∷ xs) x (suc k, within, same) e =
    let more : Contains (filter p xs) x = filter_has p xs x (k, omega (arith, within), same) e in
    elim (cases_Bool (p y)) [
      | inl holds ↦ subst (λ zs. Contains zs x) (sym (ap (λ b. cond b (y ∷ filter p xs) (filter p xs)) holds)) (later y (filter p xs) x more)
      | inr fails ↦ subst (λ zs. Contains zs x) (sym (ap (λ b. cond b (y ∷ filter p xs) (filter p xs)) fails)) more
    ]

head_or : {X : Type 0} (y : X) (zs xs : List X) (x : X) → ((z : X) → Contains zs z → Contains xs z) → Contains (y ∷ zs) x → Contains (y ∷ xs) x
head_or y zs xs x f (zero, within, same) = (0, omega arith, same)
head_or y zs xs x f (suc k, within, same) = later y xs x (f x (k, omega (arith, within), same))

-- what is filtered is of the list
filter_from : {X : Type 0} (p : X → Bool) (xs : List X) (x : X) → Contains (filter p xs) x → Contains xs x
filter_from p [] x c = absurd (omega (arith, c.1))
filter_from p (y ∷ xs) x c =
    elim (cases_Bool (p y)) [
      | inl holds ↦
          head_or y (filter p xs) xs x (λ z d. filter_from p xs z d)
          (subst (λ zs. Contains zs x) (ap (λ b. cond b (y ∷ filter p xs) (filter p xs)) holds) c)
      | inr fails ↦ later y xs x (filter_from p xs x (subst (λ zs. Contains zs x) (ap (λ b. cond b (y ∷ filter p xs) (filter p xs)) fails) c))
    ]

pruned : (table ranges : List Handler) (begun pc : ℕ) (going : List Handler) → IsSwept table ranges begun going pc
    → IsSwept table ranges begun (filter (goes_on pc) going) pc
pruned table ranges begun pc going s = record {
  within = s.within;
  same = s.same;
  sorted = s.sorted;
  met = λ k d less.
      elim (s.met k d less) [
        | inl ended ↦ inl ended
        | inr on ↦
            elim (cases_lt pc (get_or ranges k d).end) [
              | inl before ↦ inr (filter_has (goes_on pc) going _ on (lt-ltb pc _ before))
              | inr past ↦ inl past
            ]
      ];
  from = λ h c. s.from h (filter_from (goes_on pc) going h c);
}

pub swept_on : (body : Body) (s t : Sweep) (pc : ℕ) → Swept body s pc → t.going.items ≡ filter (goes_on pc) s.going.items → t.ranges ≡ s.ranges
    → t.begun ≡ s.begun → Swept body t pc
swept_on body s t pc m going ranges begun =
    subst (λ g. IsSwept body.table t.ranges.items t.begun g pc) (sym going)
    (subst (λ n. IsSwept body.table t.ranges.items n (filter (goes_on pc) s.going.items) pc) (sym begun)
    (subst (λ r. IsSwept body.table r.items s.begun (filter (goes_on pc) s.going.items) pc) (sym ranges)
    (pruned body.table s.ranges.items s.begun pc s.going.items m)))

-- whether all that go on accept the locals
pub judged : (body : Body) (s : Sweep) (pc : ℕ) (locals : List Kind) (b : Bool) → Swept body s pc → s.known ≡ locals
    → b ≡ list_all (is_kept body.code body.frames pc locals) s.going.items
    → MatchBool b (IsSettled body s pc locals) (list_all (catches body.code body.frames pc locals) body.table ≡ false)
judged body s pc locals true m k e = record {
  swept = m;
  known = ap (λ ks. list_all (is_kept body.code body.frames pc ks) s.going.items) k ∙ sym e;
  kept = sym e;
}
judged body s pc locals false m k e = going_refuses body s pc locals m (sym e)
