-- Answers to one question on each constant of a pool.
use Rattle.std.specs.Prelude.{ℕ, zero, suc, Bool, false, List, map, slice_get, unwrap_or}
use Rattle.jvm_tables.specs.declared.code.Instr.{Instr}
use Rattle.jvm_tables.specs.declared.instruction.ConstantUse.{ConstantUse}
use Rattle.jvm_tables.specs.declared.instruction.ConstantUse.TheVariants.{CallSite}
use Rattle.class_model.specs.declared.class_file.Class.{Class}
use Rattle.class_code.specs.Constants.{number_of}
use Rattle.class_code.specs.Sites.{unknown_by}

-- the answer for the constant of a number; they are numbered from 1
abbrev pub flag_at : List Bool → ℕ → Bool
flag_at flags zero = false
flag_at flags (suc n) = unwrap_or (slice_get flags n) false

abbrev pub flag_of : List Bool → Instr → Bool
flag_of flags instr = flag_at flags (number_of instr.first)

-- an answer that counts for call sites alone
abbrev pub if_site : ConstantUse → Bool → Bool
if_site CallSite flag = flag
if_site _ flag = false

-- of each constant whether it is a call site that has no site
unfoldable pub unknown_sites : Class → List Bool
unknown_sites class = map (unknown_by CallSite class) class.pool.constants
