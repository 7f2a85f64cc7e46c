-- What the code's effects are.
use Rattle.std.specs.Prelude.{ℕ, ◌==◌, List, Some, Result, Ok, Err}
use Rattle.class_code.specs.declared.named.NamedView.{NamedView}
use Rattle.class_code.specs.Named.{HandleRef}
use Rattle.class_code.specs.Parts.{named}
use Rattle.class_code.specs.Rows.{Operand, constant}
use Rattle.class_code.specs.Sites.{interface}
use Rattle.class_code.specs.Types.{parameter_kinds}
use Rattle.jvm_heap.specs.declared.fault.HeapFault.{HeapFault}
use Rattle.jvm_heap.specs.declared.fault.HeapFault.TheVariants as heap_faults
use Rattle.jvm_heap.specs.declared.slot.Slot.TheVariants.{Ref}
use Rattle.native_model.specs.declared.budget.Budget.TheVariants.{Cells}
use Rattle.native_model.specs.Worlds.{Origin, World}
use Rattle.jvm_model.specs.States.{MethodFrame, Called}
use Rattle.jvm_model.specs.Attempts.{Attempt, gives, or_stuck, ◌>>=◌}
use Rattle.jvm_model.specs.Types.{facts}
use Rattle.jvm_model.specs.Calls.{resolved, if_static}
use Rattle.jvm_model.specs.Driving.{is_makeable}
use Rattle.jvm_model.specs.Instructions as instructions
use Rattle.jvm_model.specs.Instructions.{popped_slots, if_interface, lambda_created}
use Rattle.jvm_resolve.specs.declared.stop.Stop.{Stop}
use Rattle.jvm_resolve.specs.declared.stop.Stop.TheVariants as stops
use Rattle.jvm_resolve.specs.Ends.{callee_seen}
use Rattle.jvm_state.specs.Names.{Names, called_of, pending_of}
use Rattle.jvm_effects.specs.declared.effect.Effect.{Effect}
use Rattle.jvm_effects.specs.declared.effect.Effect.TheVariants as effects

-- an effect, by what it leaves of the frame and of the world
abbrev pub effect_of : Names → Effect → MethodFrame → World → instructions.Effect
effect_of n (effects.Results slot) f w = instructions.results w slot f
effect_of n (effects.Jumps pc) f w = instructions.jumps pc f
effect_of n (effects.Enters callee slots) f w = instructions.enters (callee_seen n.method n.lambda callee) slots f
effect_of n (effects.Opens class pending) f w = instructions.opens (n.class class) (pending_of n pending) f
effect_of n (effects.Runs called slots) f w = instructions.runs (called_of n called) slots f
effect_of n (effects.Returns slot) f w = instructions.returns slot
effect_of n (effects.Rethrows o) f w = instructions.rethrows o

-- the reference to an object that is made, where the cells suffice
abbrev pub made_effect : Result ℕ HeapFault → Result Effect Stop
made_effect (Ok number) = Ok (effects.Results (Some (Ref number)))
made_effect (Err heap_faults.Full) = Err (stops.Spends Cells)
made_effect (Err heap_faults.Memory) = Err stops.Memory

-- a class that is there and an interface
abbrev pub interface_known : List ℕ → Attempt (Unit {0})
interface_known name = facts name >>= if_interface

-- a handle's method, of which only kind 6 is static
unfoldable pub handle_resolved : HandleRef → Attempt (Unit {0})
handle_resolved h = resolved h.member >>= if_static (h.kind == 6) >>= λ target. gives tt

-- a lambda of an origin, by the interface that its site names
unfoldable pub lambda_at : Origin → MethodFrame → World → Attempt instructions.Effect
lambda_at origin f w = or_stuck (interface origin.site) >>= λ name. lambda_created origin name f w

-- a concatenation, by the descriptor of its site
abbrev pub concatenation_run : Called → List ℕ → MethodFrame → Attempt instructions.Effect
concatenation_run called descriptor f =
    popped_slots (parameter_kinds descriptor) f >>= λ got. gives (instructions.runs called got.0 got.1)

-- the name of a class of which code makes objects
abbrev pub makeable_name : List ℕ → Attempt (List ℕ)
makeable_name name = is_makeable name >>= λ made. gives name

-- what an instruction names that loads a constant
abbrev pub named_constant : NamedView → Operand
named_constant c = constant (named c)
