-- The first misfit of code is the first cause at an instruction or the least stray frame.
use Rattle.std.proofs.Common.{◌≡◌, ℕ, ◌<◌, ◌≤◌, true, false, cond, Option, Some, None, refl, subst, arith}
use Rattle.std.specs.Prelude.{Contains, MatchOption, nat_lt}
use Rattle.std.proofs.lemmas.Bool.{ltb-true, ltb-false}
use Rattle.class_verify.specs.declared.cause.Cause.{Cause}
use Rattle.class_verify.specs.declared.cause.Cause.TheVariants.{BadFrame}
use Rattle.class_verify.specs.Bodies.{Body}
use Rattle.class_verify.specs.Misfits.{strays, IsMisfit, at_instruction, at_no_instruction, BodyFits, IsFirstMisfit}
use Rattle.class_verify.specs.Walks.{NoneBefore, NoneAtAll, IsFirstFound, IsWalked, IsLeastStray, earlier}

abbrev NoStray : Body → Type 0
NoStray body = (other : ℕ) → Contains (strays body.code body.frames) other → ⊥

none : (body : Body) → NoneAtAll body → NoStray body → (pc : ℕ) (cause : Cause) → IsMisfit body pc cause → ⊥
none body walked strays pc cause (at_instruction n p c e f) = walked n p c e f
none body walked strays pc cause (at_no_instruction q c) = strays q c

-- no misfit is at a lesser pc where no instruction's is, and no frame's
not_before : (body : Body) (pc : ℕ) → NoneBefore body pc → ((other : ℕ) → Contains (strays body.code body.frames) other → pc ≤ other)
    → (other : ℕ) (cause : Cause) → IsMisfit body other cause → pc ≤ other
not_before body pc walked strays other cause (at_instruction n p c e f) = walked n p c e f
not_before body pc walked strays other cause (at_no_instruction q c) = strays q c

found_misfit : (body : Body) (pc : ℕ) (cause : Cause) → IsFirstFound body pc cause → IsMisfit body pc cause
found_misfit body pc cause f = subst (λ k. IsMisfit body k cause) f.place (at_instruction f.number f.point cause f.there f.misfit)

from_found : (body : Body) (pc : ℕ) (cause : Cause) → IsFirstFound body pc cause → ((other : ℕ) → Contains (strays body.code body.frames) other → pc ≤ other)
    → IsFirstMisfit body pc cause
from_found body pc cause f s = record { misfit = found_misfit body pc cause f; first = not_before body pc f.first s }

from_stray : (body : Body) (pc : ℕ) → Contains (strays body.code body.frames) pc → NoneBefore body pc → ((other : ℕ) → Contains (strays body.code body.frames) other → pc ≤ other)
    → IsFirstMisfit body pc BadFrame
from_stray body pc c w s = record { misfit = at_no_instruction pc c; first = not_before body pc w s }

abbrev IsFirst : Body → Option (ℕ × Cause) → Type 0
IsFirst body found = MatchOption found (BodyFits body) (λ m. IsFirstMisfit body m.0 m.1)

both : (body : Body) (found : ℕ × Cause) (pc : ℕ) → IsFirstFound body found.0 found.1 → IsLeastStray body.code body.frames (Some pc)
    → IsFirst body (cond (nat_lt pc found.0) (Some (pc, BadFrame)) (Some found))
both body found pc f s =
    elim (nat_lt pc found.0) as (λ v. nat_lt pc found.0 ≡ v → IsFirst body (cond v (Some (pc, BadFrame)) (Some found))) [
      | true ↦ λ e. from_stray body pc s.0 (λ n p cause h i. let low : pc < found.0 = ltb-true pc found.0 e in let high : found.0 ≤ p.pc = f.first n p cause h i in omega arith) s.1
      | false ↦ λ e. from_found body found.0 found.1 f (λ other c. let low : found.0 ≤ pc = ltb-false pc found.0 e in let high : pc ≤ other = s.1 other c in omega arith)
    ] refl

pub earlier_is_first : (body : Body) (found : Option (ℕ × Cause)) (stray : Option ℕ) → IsWalked body found → IsLeastStray body.code body.frames stray
    → MatchOption (earlier found stray) (BodyFits body) (λ m. IsFirstMisfit body m.0 m.1)
earlier_is_first body None None w s = none body w s
earlier_is_first body None (Some pc) w s = from_stray body pc s.0 (λ n p cause h i. absurd (w n p cause h i)) s.1
earlier_is_first body (Some found) None w s = from_found body found.0 found.1 w (λ other c. absurd (s other c))
earlier_is_first body (Some found) (Some pc) w s = both body found pc w s
