-- What a walk over the instructions of code finds.
use Rattle.std.specs.Prelude.{◌≡◌, ℕ, ◌<◌, ◌≤◌, Bool, true, false, List, Contains, min, nat_lt, Option, Some, None, if◌then◌else◌}
use Rattle.class_verify.specs.declared.cause.Cause.{Cause}
use Rattle.class_verify.specs.declared.cause.Cause.TheVariants.{BadFrame}
use Rattle.class_verify.specs.declared.frames.Written.{Written}
use Rattle.class_verify.specs.Bodies.{Body, Point, point_of, following}
use Rattle.class_verify.specs.Misfits.{cause_at, strays}

-- whether there is an instruction behind a point, and then which
abbrev pub Moves : Body → Bool → Point → Point → Type 0
Moves body true before after = following body before ≡ Some after
Moves body false before after = following body before ≡ None

-- an instruction that has a cause is not before a pc
abbrev pub NoneBefore : Body → ℕ → Type 0
NoneBefore body pc = (n : ℕ) (p : Point) (cause : Cause) → point_of body n ≡ Some p → cause_at body p ≡ Some cause → pc ≤ p.pc

abbrev pub NoneAtAll : Body → Type 0
NoneAtAll body = (n : ℕ) (p : Point) (cause : Cause) → point_of body n ≡ Some p → cause_at body p ≡ Some cause → ⊥

-- The instruction at a pc has this cause, and none before it has one.
pub record IsFirstFound (body : Body) (pc : ℕ) (cause : Cause) : Type 0 where
  pub number : ℕ
  pub point : Point
  pub there : point_of body number ≡ Some point
  pub place : point.pc ≡ pc
  pub misfit : cause_at body point ≡ Some cause
  pub first : NoneBefore body pc

abbrev pub IsWalked : Body → Option (ℕ × Cause) → Type 0
IsWalked body None = NoneAtAll body
IsWalked body (Some found) = IsFirstFound body found.0 found.1

-- the least of several numbers, if there are any
abbrev pub IsLeast : List ℕ → Option ℕ → Type 0
IsLeast xs None = (other : ℕ) → Contains xs other → ⊥
IsLeast xs (Some least) = Contains xs least × ((other : ℕ) → Contains xs other → least ≤ other)

abbrev pub least_of : Option ℕ → ℕ → ℕ
least_of None x = x
least_of (Some least) x = min least x

-- the least offset of a frame at which no instruction begins
abbrev pub IsLeastStray : List ℕ → List Written → Option ℕ → Type 0
IsLeastStray code frames least = IsLeast (strays code frames) least

-- of a cause at an instruction and a frame at no instruction the one at the lesser pc
abbrev pub earlier : Option (ℕ × Cause) → Option ℕ → Option (ℕ × Cause)
earlier found None = found
earlier None (Some pc) = Some (pc, BadFrame)
earlier (Some found) (Some pc) = if nat_lt pc found.0 then Some (pc, BadFrame) else Some found

-- The walk stands at a point, and no instruction before it has a cause.
pub record Stands (body : Body) (p : Point) : Type 0 where
  pub number : ℕ
  pub there : point_of body number ≡ Some p
  pub before : (n : ℕ) (q : Point) (cause : Cause) → n < number → point_of body n ≡ Some q → cause_at body q ≡ Some cause → ⊥
