-- What the instructions do that stay in their frame (JVMS 6.5).
use Rattle.std.specs.Prelude.{ℕ, ◌+◌, ◌==◌, nat_lt, nat_le, ℤ, pos, int_lt, Bool, not, List, [], ◌∷◌, ◌++◌, length, take, drop, slice_get, slice_set, Option, Some, None, option_map, option_and_then, if◌then◌else◌}
use Rattle.std.specs.Ordering.{int_eq}
use Rattle.std.specs.Int.{w32, int_wrapping_add}
use Rattle.jvm_tables.specs.declared.instruction.ValueKind.{ValueKind}
use Rattle.jvm_tables.specs.declared.instruction.ValueKind.TheVariants as values
use Rattle.jvm_heap.specs.declared.slot.Slot.{Slot}
use Rattle.jvm_heap.specs.declared.slot.Slot.TheVariants.{Top, Int, Long, Ref}
use Rattle.jvm_heap.specs.Operands.{Operands, pushed, popped, ValueOf, taken, all_taken, given}
use Rattle.native_model.specs.Thrown.{Thrown}
use Rattle.native_model.specs.Table.{value_in}
use Rattle.jvm_model.specs.declared.action.Test.{Test}
use Rattle.jvm_model.specs.declared.action.Test.TheVariants as tests
use Rattle.jvm_model.specs.declared.action.Rearrangement.{Rearrangement}
use Rattle.jvm_model.specs.declared.action.Rearrangement.TheVariants as rearrangements
use Rattle.jvm_model.specs.declared.action.Action.{Action}
use Rattle.jvm_model.specs.declared.action.Action.TheVariants as actions
use Rattle.jvm_model.specs.Arithmetic.{Effect, leaves, raises, plain}

-- the locals and the operands of a frame
pub record Work : Type 0 where
  pub locals : List Slot
  pub operands : Operands

abbrev pub work : List Slot → Operands → Work
work locals operands = record { locals = locals; operands = operands }

-- it goes on, to the next instruction or to a target, or it throws
pub data Step : Type 0 where
  next : Work → Step
  jump : ℕ → Work → Step
  throw : Thrown → Work → Step

abbrev pub of_effect : List Slot → Effect → Step
of_effect locals (leaves operands) = next (work locals operands)
of_effect locals (raises t operands) = throw t (work locals operands)

abbrev pub next_with : List Slot → Option Operands → Option Step
next_with locals operands = option_map (λ o. next (work locals o)) operands

unfoldable pub loaded : ValueKind → ℕ → Work → Option Step
loaded k at w =
    option_and_then (λ v. next_with w.locals (given k v w.operands)) (option_and_then (value_in k) (slice_get w.locals at))

-- a local is written, where there is one
unfoldable pub with_local : ℕ → Slot → List Slot → Option (List Slot)
with_local at slot locals = if nat_lt at (length locals) then Some (slice_set locals at slot) else None

abbrev pub written : (k : ValueKind) → ValueOf k → ℕ → List Slot → Option (List Slot)
written values.Int n at locals = with_local at (Int n) locals
written values.Long n at locals = option_and_then (with_local (at + 1) Top) (with_local at (Long n) locals)
written values.Reference n at locals = with_local at (Ref n) locals

unfoldable pub stored : ValueKind → ℕ → Work → Option Step
stored k at w =
    option_and_then (λ found. option_map (λ locals. next (work locals found.1)) (written k found.0 at w.locals)) (taken k w.operands)

unfoldable pub incremented : ℕ → ℤ → Work → Option Step
incremented at by w =
    option_and_then (λ n. option_map (λ locals. next (work locals w.operands)) (with_local at (Int (int_wrapping_add w32 n by)) w.locals))
    (option_and_then (value_in values.Int) (slice_get w.locals at))

-- slots are put back, the last on top
abbrev pub pushed_all : List Slot → Operands → Option Operands
pushed_all [] o = Some o
pushed_all (slot ∷ slots) o = option_and_then (pushed_all slots) (pushed slot o)

-- two and three slots, the uppermost first, and what is left
abbrev pub two_popped : Operands → Option ((Slot × Slot) × Operands)
two_popped o = option_and_then (λ a. option_map (λ b. ((a.0, b.0), b.1)) (popped a.1)) (popped o)

abbrev pub three_popped : Operands → Option ((Slot × Slot × Slot) × Operands)
three_popped o = option_and_then (λ two. option_map (λ c. ((two.0.0, two.0.1, c.0), c.1)) (popped two.1)) (two_popped o)

abbrev pub four_popped : Operands → Option ((Slot × Slot × Slot × Slot) × Operands)
four_popped o =
    option_and_then (λ three. option_map (λ d. ((three.0.0, three.0.1, three.0.2, d.0), d.1)) (popped three.1)) (three_popped o)

-- One to four slots are taken, and others given, written as in JVMS 6.5: the last is on top.
abbrev pub of_one : (Slot → List Slot) → Operands → Option Operands
of_one given o = option_and_then (λ found. pushed_all (given found.0) found.1) (popped o)

abbrev pub of_two : (Slot → Slot → List Slot) → Operands → Option Operands
of_two given o = option_and_then (λ found. pushed_all (given found.0.1 found.0.0) found.1) (two_popped o)

abbrev pub of_three : (Slot → Slot → Slot → List Slot) → Operands → Option Operands
of_three given o = option_and_then (λ found. pushed_all (given found.0.2 found.0.1 found.0.0) found.1) (three_popped o)

abbrev pub of_four : (Slot → Slot → Slot → Slot → List Slot) → Operands → Option Operands
of_four given o = option_and_then (λ found. pushed_all (given found.0.3 found.0.2 found.0.1 found.0.0) found.1) (four_popped o)

-- JVMS 6.5, pop to swap; None where there are no such slots, or no room
unfoldable pub rearranged : Rearrangement → Operands → Option Operands
rearranged rearrangements.Pop o = of_one (λ a. []) o
rearranged rearrangements.Pop2 o = of_two (λ b a. []) o
rearranged rearrangements.Dup o = of_one (λ a. a ∷ a ∷ []) o
rearranged rearrangements.DupX1 o = of_two (λ b a. a ∷ b ∷ a ∷ []) o
rearranged rearrangements.DupX2 o = of_three (λ c b a. a ∷ c ∷ b ∷ a ∷ []) o
rearranged rearrangements.Dup2 o = of_two (λ b a. b ∷ a ∷ b ∷ a ∷ []) o
rearranged rearrangements.Dup2X1 o = of_three (λ c b a. b ∷ a ∷ c ∷ b ∷ a ∷ []) o
rearranged rearrangements.Dup2X2 o = of_four (λ d c b a. b ∷ a ∷ d ∷ c ∷ b ∷ a ∷ []) o
rearranged rearrangements.Swap o = of_two (λ b a. a ∷ b ∷ []) o

abbrev pub passes : Test → ℤ → ℤ → Bool
passes tests.Eq a b = int_eq a b
passes tests.Ne a b = not (int_eq a b)
passes tests.Lt a b = int_lt a b
passes tests.Ge a b = not (int_lt a b)
passes tests.Gt a b = int_lt b a
passes tests.Le a b = not (int_lt b a)

abbrev pub branched : Bool → ℕ → Work → Step
branched b target w = if b then jump target w else next w

unfoldable pub tested : Test → ℕ → Work → Option Step
tested t target w =
    option_map (λ found. branched (passes t found.0 (pos 0)) target (work w.locals found.1)) (taken values.Int w.operands)

unfoldable pub compared : Test → ℕ → Work → Option Step
compared t target w =
    option_map (λ found. branched (passes t found.0.1.0 found.0.0) target (work w.locals found.1))
    (all_taken (values.Int ∷ values.Int ∷ []) w.operands)

abbrev pub is_as_wanted : Bool → Bool → Bool
is_as_wanted wanted b = if wanted then b else not b

unfoldable pub references_compared : Bool → ℕ → Work → Option Step
references_compared same target w =
    option_map (λ found. branched (is_as_wanted same (found.0.1.0 == found.0.0)) target (work w.locals found.1))
    (all_taken (values.Reference ∷ values.Reference ∷ []) w.operands)

unfoldable pub null_tested : Bool → ℕ → Work → Option Step
null_tested null target w =
    option_map (λ found. branched (is_as_wanted null (found.0 == 0)) target (work w.locals found.1)) (taken values.Reference w.operands)

-- what an action does; None where it finds no such values or no room
abbrev pub worked : Action → Work → Option Step
worked actions.Nop w = Some (next w)
worked actions.PushNull w = next_with w.locals (pushed (Ref 0) w.operands)
worked (actions.PushInt n) w = next_with w.locals (given values.Int n w.operands)
worked (actions.PushLong n) w = next_with w.locals (given values.Long n w.operands)
worked (actions.Plain op) w = option_map (of_effect w.locals) (plain op w.operands)
worked (actions.Load k at) w = loaded k at w
worked (actions.Store k at) w = stored k at w
worked (actions.Increment at by) w = incremented at by w
worked (actions.Rearrange r) w = next_with w.locals (rearranged r w.operands)
worked (actions.IfInt t target) w = tested t target w
worked (actions.IfInts t target) w = compared t target w
worked (actions.IfReferences same target) w = references_compared same target w
worked (actions.IfNull null target) w = null_tested null target w
worked (actions.Goto target) w = Some (jump target w)
