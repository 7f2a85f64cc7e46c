-- Where control goes from an instruction, and where a throw may be caught (JVMS 6.5, 4.7.3).
use Rattle.std.specs.Prelude.{ℕ, Bool, true, false, ◌&&◌, nat_lt, nat_le, List, [], ◌∷◌, map}
use Rattle.jvm_tables.specs.declared.code.Instr.{Instr}
use Rattle.jvm_tables.specs.declared.instruction.Flow.{Flow}
use Rattle.jvm_tables.specs.declared.instruction.Flow.TheVariants as flows
use Rattle.jvm_tables.specs.Switches.{target}
use Rattle.jvm_tables.specs.Switching.{cases_at}
use Rattle.class_model.specs.declared.attribute_forms.Handler.{Handler}

-- the targets: of a switch that of its default, and that of each key
abbrev pub targets_by : Flow → List ℕ → Instr → List ℕ
targets_by flows.Next code instr = []
targets_by flows.Branch code instr = target instr.pc instr.first ∷ []
targets_by flows.Jump code instr = target instr.pc instr.first ∷ []
targets_by flows.Switch code instr = target instr.pc instr.first ∷ map (λ c. c.1) (cases_at code instr)
targets_by flows.Return code instr = []
targets_by flows.Throw code instr = []

-- control may go on to the next instruction
abbrev pub falls : Flow → Bool
falls flows.Next = true
falls flows.Branch = true
falls _ = false

-- a range of the exception table (JVMS 4.7.3)
abbrev pub covers : ℕ → Handler → Bool
covers pc h = nat_le h.start pc && nat_lt pc h.end
