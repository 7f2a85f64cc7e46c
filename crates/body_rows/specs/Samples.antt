-- Methods by their lines, and programs by their answers.
use Rattle.std.specs.Prelude.{ℕ, ℤ, pos, true, false, List, [], ◌∷◌, codes, Option, Some, None}
use Rattle.class_model.specs.declared.identifiers.MemberRef.{MemberRef}
use Rattle.class_index.specs.Naming.{nowhere}
use Rattle.class_code.specs.Named as named
use Rattle.class_code.specs.Rows.{MethodRow, Line, Operand, nothing, constant, Catch}
use Rattle.native_model.specs.Answers as natives
use Rattle.tree_value.specs.Values.{Whole}
use Rattle.jvm_model.specs.Plans.{Oracle, code_of, resolve, resolve_field, select, select_special, below, class_of, layout_of, levels_of}
use Rattle.jvm_model.specs.Runs.{Files}
use Rattle.jvm_model.specs.Bodies.{Outcome, returns, Task, body}

-- an instruction with numbers
abbrev pub with_numbers : ℕ → ℕ → List ℤ → Line
with_numbers pc op numbers = record { pc = pc; op = op; wide = false; numbers = numbers; operand = nothing }

-- an instruction without operands
abbrev pub bare : ℕ → ℕ → Line
bare pc op = with_numbers pc op []

-- an instruction with a constant
abbrev pub naming : ℕ → ℕ → Operand → Line
naming pc op operand = record { pc = pc; op = op; wide = false; numbers = pos 0 ∷ []; operand = operand }

abbrev pub ldc_int : ℕ → ℕ → Line
ldc_int pc bits = naming pc 0x12 (constant (named.int bits))

abbrev pub member : List ℕ → List ℕ → List ℕ → MemberRef
member owner name descriptor = record { owner = owner; name = name; descriptor = descriptor }

-- `X.m` that gives an int
abbrev pub main : MemberRef
main = member (codes "X") (codes "m") (codes "()I")

abbrev pub static_method : MemberRef → ℕ → ℕ → List Line → List Catch → MethodRow
static_method method stack locals lines catches = record {
  method = method;
  flags = 8;
  max_stack = stack;
  max_locals = locals;
  lines = lines;
  catches = catches;
}

-- a program of one method, which asks for nothing else
abbrev pub alone : MethodRow → Oracle
alone row (code_of method) = Some row
alone row (resolve method) = nowhere
alone row (resolve_field field) = None
alone row (select method class) = nowhere
alone row (select_special caller method) = nowhere
alone row (below low high) = true
alone row (class_of name) = None
alone row (layout_of name) = None
alone row (levels_of name) = []

abbrev pub no_files : Files
no_files need = natives.nothing

abbrev pub task : ℕ → Task
task budget = record { method = main; budget = budget; owner = None; surround = None }

-- how `X.m` ends with a budget, alone
abbrev pub ending : ℕ → MethodRow → Option Outcome
ending budget row = body (alone row) no_files (task budget) []

abbrev pub gives : Whole → Option Outcome
gives v = Some (returns v [] [])
