-- A plan that may throw, spend a budget, or find what verification excludes.
use Rattle.std.specs.Prelude.{Option, Some, None}
use Rattle.native_model.specs.declared.budget.Budget.{Budget}
use Rattle.native_model.specs.Thrown.{Thrown}
use Rattle.jvm_model.specs.Plans.{Lookup, Answer, Plan, ends, asks, after}

pub data Tried (A : Type 0) : Type 0 where
  fine : A → Tried A
  raises : Thrown → Tried A
  runs_out : Budget → Tried A
  is_stuck : Tried A

abbrev pub Attempt : Type 0 → Type 0
Attempt A = Plan (Tried A)

abbrev pub gives : {A : Type 0} → A → Attempt A
gives a = ends (fine a)

abbrev pub throws : {A : Type 0} → Thrown → Attempt A
throws t = ends (raises t)

abbrev pub sticks : {A : Type 0} → Attempt A
sticks = ends is_stuck

abbrev pub on_tried : {A B : Type 0} → (A → Attempt B) → Tried A → Attempt B
on_tried next (fine a) = next a
on_tried next (raises t) = ends (raises t)
on_tried next (runs_out b) = ends (runs_out b)
on_tried next is_stuck = ends is_stuck

infixl 10 ◌>>=◌
abbrev pub ◌>>=◌ : {A B : Type 0} → Attempt A → (A → Attempt B) → Attempt B
p >>= next = after p (on_tried next)

-- the answer of a lookup
abbrev pub asked : (q : Lookup) → Attempt (Answer q)
asked q = asks q (λ answer. ends (fine answer))

-- what is there in each valid state
abbrev pub or_stuck : {A : Type 0} → Option A → Attempt A
or_stuck None = ends is_stuck
or_stuck (Some a) = ends (fine a)

abbrev pub or_out : {A : Type 0} → Budget → Option A → Attempt A
or_out b None = ends (runs_out b)
or_out b (Some a) = ends (fine a)
