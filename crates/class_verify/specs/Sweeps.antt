-- The ranges of an exception table, met in the order of their starts as a walk goes on.
use Rattle.std.specs.Prelude.{◌≡◌, ℕ, ◌<◌, ◌≤◌, ◌⊎◌, Bool, true, not, ◌||◌, nat_lt, nat_le, List, [], length, slice_index_or, Contains, IsPermutation, Option, Some, None, if◌then◌else◌}
use Rattle.std.specs.List.{list_all}
use Rattle.std.specs.List.Sorted.{IsNonDecreasingBy}
use Rattle.class_model.specs.declared.attribute_forms.Handler.{Handler}
use Rattle.class_verify.specs.declared.frames.Written.{Written}
use Rattle.class_verify.specs.declared.kinds.Kind.{Kind}
use Rattle.class_verify.specs.declared.sweep.Sweep.{Sweep}
use Rattle.class_verify.specs.Bodies.{Body}
use Rattle.class_verify.specs.Frames.{frame_at}
use Rattle.class_verify.specs.Targets.{is_caught}

-- a range ends by a pc, or its handler accepts the locals
abbrev pub is_kept : List ℕ → List Written → ℕ → List Kind → Handler → Bool
is_kept code frames pc locals h = not (nat_lt pc h.end) || is_caught locals (frame_at code frames h.handler)

-- a range doesn't end by a pc
abbrev pub goes_on : ℕ → Handler → Bool
goes_on pc h = nat_lt pc h.end

-- the next range, if it begins by a pc
abbrev pub begins_by : ℕ → Option Handler → Option Handler
begins_by pc None = None
begins_by pc (Some h) = if nat_le h.start pc then Some h else None

-- Of the ranges by their starts so many began, each by the pc; those that don't end by the pc are going on.
pub record IsSwept (table ranges : List Handler) (begun : ℕ) (going : List Handler) (pc : ℕ) : Type 0 where
  pub within : begun ≤ length ranges
  pub same : IsPermutation table ranges
  pub sorted : IsNonDecreasingBy (λ h. h.start) ranges
  pub met : (k : ℕ) (d : Handler) → k < begun → ((slice_index_or ranges k d).end ≤ pc) ⊎ Contains going (slice_index_or ranges k d)
  pub from : (h : Handler) → Contains going h → Contains table h × (h.start ≤ pc)

abbrev pub Swept : Body → Sweep → ℕ → Type 0
Swept body sweep pc = IsSwept body.table sweep.ranges.items sweep.begun sweep.going.items pc

-- each handler of those that are going on accepts the locals
abbrev pub Kept : Body → Sweep → ℕ → List Kind → Type 0
Kept body sweep pc locals = list_all (is_kept body.code body.frames pc locals) sweep.going.items ≡ true

-- what is known of them before an instruction: that they accept the known locals, and those there unless changed
pub record IsMet (body : Body) (sweep : Sweep) (pc : ℕ) (locals : List Kind) : Type 0 where
  pub swept : Swept body sweep pc
  pub known : Kept body sweep pc sweep.known
  pub kept : sweep.is_settled ≡ true → Kept body sweep pc locals

-- what is known of them once all that began are looked at
pub record IsSettled (body : Body) (sweep : Sweep) (pc : ℕ) (locals : List Kind) : Type 0 where
  pub swept : Swept body sweep pc
  pub known : Kept body sweep pc sweep.known
  pub kept : Kept body sweep pc locals

-- none began yet
pub record IsFresh (table : List Handler) (sweep : Sweep) : Type 0 where
  pub same : IsPermutation table sweep.ranges.items
  pub sorted : IsNonDecreasingBy (λ h. h.start) sweep.ranges.items
  pub begun : sweep.begun ≡ 0
  pub going : sweep.going.items ≡ []
  pub settled : sweep.is_settled ≡ true
