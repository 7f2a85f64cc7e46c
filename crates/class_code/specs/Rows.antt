-- The row of a method: its code with constants by name (JVMS 4.7.3, 6.5).
use Rattle.std.specs.Prelude.{ℕ, zero, suc, ◌+◌, ℤ, pos, Bool, ◌==◌, List, [], ◌∷◌, map, flat_map, Option, Some, None, option_map, option_and_then, Result, Ok, Err, drop, length, if◌then◌else◌}
use Rattle.jvm_tables.specs.declared.code.CodeFault.{CodeFault}
use Rattle.jvm_tables.specs.declared.code.Instr.{Instr}
use Rattle.jvm_tables.specs.declared.instruction.OpRow.{OpRow}
use Rattle.jvm_tables.specs.Agreement.{uses_constant}
use Rattle.jvm_tables.specs.Decoding.{decoding}
use Rattle.jvm_tables.specs.Opcodes.{row_of}
use Rattle.jvm_tables.specs.Switching.{cases_at}
use Rattle.class_model.specs.declared.attribute_forms.Handler.{Handler}
use Rattle.class_model.specs.declared.class_file.Class.{Class}
use Rattle.class_model.specs.declared.class_file.Member.{Member}
use Rattle.class_model.specs.declared.constant_pool.Pool.{Pool}
use Rattle.class_model.specs.declared.constant_pool.Constant.{Constant}
use Rattle.class_model.specs.declared.constant_pool.Constant.TheVariants as constants
use Rattle.class_model.specs.declared.identifiers.MemberRef.{MemberRef}
use Rattle.class_model.specs.Constants.{class_at}
use Rattle.class_model.specs.Shape.{class_name, name_text, descriptor_text}
use Rattle.class_code.specs.Codes.{CodeParts, code_in}
use Rattle.class_code.specs.Constants.{constant_of}
use Rattle.class_code.specs.Named.{Named, named_of, named_at}
use Rattle.class_code.specs.Sites.{LambdaSite, Site, lambda, concatenation, written_site}

-- What an instruction names: nothing, a constant, or a call site, whose constants are by name too.
pub data Operand : Type 0 where
  nothing : Operand
  constant : Named → Operand
  lambda_made : LambdaSite → Operand
  concatenated : List ℕ → List ℕ → List Named → Operand

-- An instruction by its place and its opcode. Its numbers are those that are no number of a constant: the second
-- operand beside a constant, else both operands and for a switch each key with its target.
pub record Line : Type 0 where
  pub pc : ℕ
  pub op : ℕ
  pub wide : Bool
  pub numbers : List ℤ
  pub operand : Operand

-- a range of the exception table, by the name of the class that it catches, which is None for all (JVMS 4.7.3)
pub record Catch : Type 0 where
  pub start : ℕ
  pub end : ℕ
  pub handler : ℕ
  pub class : Option (List ℕ)

pub record MethodRow : Type 0 where
  pub method : MemberRef
  pub flags : ℕ
  pub max_stack : ℕ
  pub max_locals : ℕ
  pub lines : List Line
  pub catches : List Catch

-- each of some things, where all of them are there
abbrev pub all_some : {A : Type 0} → List (Option A) → Option (List A)
all_some [] = Some []
all_some (None ∷ xs) = None
all_some (Some x ∷ xs) = option_map (λ ys. x ∷ ys) (all_some xs)

abbrev pub operand_of_site : Pool → Site → Option Operand
operand_of_site pool (lambda l) = Some (lambda_made l)
operand_of_site pool (concatenation c) =
    option_map (concatenated c.descriptor c.recipe) (all_some (map (named_at pool) c.constants))

abbrev pub operand_by : Class → Constant → Option Operand
operand_by class (constants.InvokeDynamic bootstrap name_type) =
    option_and_then (operand_of_site class.pool) (written_site class bootstrap name_type)
operand_by class c = option_map constant (named_of class.pool c)

-- None where the instruction names a constant that has no name, or no site
abbrev pub operand_of : Class → OpRow → Instr → Option Operand
operand_of class row instr =
    if uses_constant row.constant then option_and_then (operand_by class) (constant_of class instr) else Some nothing

abbrev pub case_numbers : ℤ × ℕ → List ℤ
case_numbers c = c.0 ∷ pos c.1 ∷ []

abbrev pub numbers : List ℕ → OpRow → Instr → List ℤ
numbers code row instr =
    if uses_constant row.constant then instr.second ∷ []
    else instr.first ∷ instr.second ∷ flat_map case_numbers (cases_at code instr)

abbrev pub line_with : List ℕ → OpRow → Instr → Operand → Line
line_with code row instr operand =
    record { pc = instr.pc; op = instr.op; wide = instr.wide; numbers = numbers code row instr; operand = operand }

abbrev pub line_of : Class → List ℕ → Instr → Option Line
line_of class code instr =
    option_and_then (λ row. option_map (line_with code row instr) (operand_of class row instr)) (row_of instr.op)

abbrev pub with_later : Option Line → Option (List Line) → Option (List Line)
with_later None later = None
with_later (Some line) later = option_map (λ lines. line ∷ lines) later

abbrev pub ok_of : Result Instr CodeFault → Option Instr
ok_of (Ok instr) = Some instr
ok_of (Err fault) = None

-- the instructions from a pc on, at most so many; None where something there is none
unfoldable pub lines_from : ℕ → Class → List ℕ → ℕ → Option (List Line)
lines_from zero class code pc = if pc == length code then Some [] else None
lines_from (suc n) class code pc =
    if pc == length code then Some []
    else option_and_then (λ instr. with_later (line_of class code instr) (lines_from n class code (pc + instr.length)))
    (ok_of (decoding pc (drop pc code)))

abbrev pub lines : Class → List ℕ → Option (List Line)
lines class code = lines_from (length code) class code 0

abbrev pub catch_of : Pool → Handler → Catch
catch_of pool h = record { start = h.start; end = h.end; handler = h.handler; class = class_at pool h.catch_type }

-- a method by its texts
abbrev pub method_ref : Class → Member → MemberRef
method_ref class m = record { owner = class_name class; name = name_text class.pool m; descriptor = descriptor_text class.pool m }

abbrev pub row_with : Class → Member → CodeParts → List Line → MethodRow
row_with class m c lines = record {
  method = method_ref class m;
  flags = m.flags;
  max_stack = c.max_stack;
  max_locals = c.max_locals;
  lines = lines;
  catches = map (catch_of class.pool) c.table;
}

-- The row of a method that has code, all of which decodes. So a row says all that the machine reads of a method, and
-- nothing by a number of the pool.
unfoldable pub method_row : Class → Member → Option MethodRow
method_row class m = option_and_then (λ c. option_map (row_with class m c) (lines class c.code)) (code_in m.attributes)
