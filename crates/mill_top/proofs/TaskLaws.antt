-- Laws of what class files say.
use Rattle.std.proofs.Common.{◌≡◌, ℕ, zero, suc, ◌≤◌, FitsSigned, lit<, Bool, true, false, ◌&&◌, ◌==◌, if◌then◌else◌, slice_index, List, Option, Some, None, nat_le, option_and_then, refl, sym, ap, subst, ◌∙◌, arith}
use Rattle.std.specs.Int.{w32}
use Rattle.std.specs.List.{AllByRecursion}
use Rattle.std.specs.Option.{option_map, option_or}
use Rattle.std.specs.Str.{bytes_eq}
use Rattle.std.proofs.lemmas.Bool.{and_parts, leb-true}
use Rattle.io_traits.specs.Files.{Files}
use Rattle.mill_top.specs.declared.linked_file.LinkedFile.{LinkedFile}
use Rattle.mill_top.specs.declared.operation.Operation.{Operation}
use Rattle.mill_top.specs.declared.small_file.SmallFile.{SmallFile}
use Rattle.mill_top.specs.declared.task_file.Body.{Body}
use Rattle.mill_top.specs.declared.task_file.Body.TheVariants.{Constant, Linked}
use Rattle.mill_top.specs.declared.task_file.TaskFile.{TaskFile}
use Rattle.mill_top.specs.SmallFiles.{is_class_letter, is_task_letter, is_constant_opcode, constant, small_file, is_small_within, is_small_file, small_free, small_of}
use Rattle.mill_top.specs.LinkedFiles.{operation_of, linked_file, is_linked_within, is_linked_file, if_linked_file, linked_free, linked_of}
use Rattle.class_read.specs.ClassFiles.{class_files}
use Rattle.mill_top.specs.Builds.{small_task, linked_task, task_file_of}
use Rattle.mill_top.specs.Graphs.{letters, file_with, task_files, graph_of, build_graph}
use Rattle.mill_top.proofs.FindLaws.{holds-found, holds-given}

-- the constant of a body is an int of 32 bits
abbrev pub ConstantFits : Body → Type 0
ConstantFits (Constant constant) = FitsSigned w32 constant
ConstantFits (Linked input operation constant) = FitsSigned w32 constant

-- what a file that is read says is within its bounds
pub record IsWithin (file : TaskFile) : Type 0 where
  pub low : 97 ≤ file.task
  pub high : file.task ≤ 122
  pub fits : ConstantFits file.body

-- what a choice gives by a test
chosen : {T : Type 0} (b : Bool) (x y : T) → (if b then Some x else None) ≡ Some y → (b ≡ true) × (x ≡ y)
chosen true x y e = (refl, cc)
chosen false x y e = cc

constant_fits : (opcode : ℕ) → opcode ≤ 8 → FitsSigned w32 (constant opcode)
constant_fits zero within = record { sfits = lit< tt }
constant_fits (suc zero) within = record { sfits = lit< tt }
constant_fits (suc (suc zero)) within = record { sfits = lit< tt }
constant_fits (suc (suc (suc zero))) within = record { sfits = lit< tt }
constant_fits (suc (suc (suc (suc zero)))) within = record { sfits = lit< tt }
constant_fits (suc (suc (suc (suc (suc zero))))) within = record { sfits = lit< tt }
constant_fits (suc (suc (suc (suc (suc (suc zero)))))) within = record { sfits = lit< tt }
constant_fits (suc (suc (suc (suc (suc (suc (suc zero))))))) within = record { sfits = lit< tt }
constant_fits (suc (suc (suc (suc (suc (suc (suc (suc zero)))))))) within = record { sfits = lit< tt }
constant_fits (suc (suc (suc (suc (suc (suc (suc (suc (suc n))))))))) within = absurd (omega arith)

letter_low : (c : ℕ) → is_task_letter c ≡ true → 97 ≤ c
letter_low c is = leb-true 97 c (and_parts (nat_le 97 c) (nat_le c 122) is).0

letter_high : (c : ℕ) → is_task_letter c ≡ true → c ≤ 122
letter_high c is = leb-true c 122 (and_parts (nat_le 97 c) (nat_le c 122) is).1

opcode_fits : (opcode : ℕ) → is_constant_opcode opcode ≡ true → FitsSigned w32 (constant opcode)
opcode_fits opcode is = constant_fits opcode (leb-true opcode 8 (and_parts (nat_le 2 opcode) (nat_le opcode 8) is).1)

small-within : (file : SmallFile) → is_small_within file ≡ true → IsWithin (small_task file)
small-within file is =
    let rest = (and_parts (is_class_letter file.class) (is_task_letter file.task && is_constant_opcode file.opcode) is).1 in
    let parts = and_parts (is_task_letter file.task) (is_constant_opcode file.opcode) rest in
    record { low = letter_low file.task parts.0; high = letter_high file.task parts.0; fits = opcode_fits file.opcode parts.1 }

linked-within : (file : LinkedFile) → is_linked_within file ≡ true → IsWithin (linked_task file)
linked-within file is =
    let rest = (and_parts (is_class_letter file.class) (is_task_letter file.task && (is_task_letter file.input && is_constant_opcode file.opcode)) is).1 in
    let parts = and_parts (is_task_letter file.task) (is_task_letter file.input && is_constant_opcode file.opcode) rest in
    let last = and_parts (is_task_letter file.input) (is_constant_opcode file.opcode) parts.1 in
    record { low = letter_low file.task parts.0; high = letter_high file.task parts.0; fits = opcode_fits file.opcode last.1 }

small_of-within : (bytes : List ℕ) (file : SmallFile) → small_of bytes ≡ Some file → is_small_within file ≡ true
unfolding small_of is_small_file
small_of-within bytes file e =
    let free = small_free bytes in
    let c = chosen (is_small_file free bytes) free file e in
    ap is_small_within (sym c.1) ∙ (and_parts (is_small_within free) (bytes_eq bytes (small_file free)) c.0).0

if_linked-within : (bytes : List ℕ) (free file : LinkedFile) → if_linked_file free bytes ≡ Some file → is_linked_within file ≡ true
unfolding is_linked_file
if_linked-within bytes free file e =
    let c = chosen (is_linked_file free bytes) free file e in
    ap is_linked_within (sym c.1) ∙ (and_parts (is_linked_within free) (bytes_eq bytes (linked_file free)) c.0).0

linked-by : (bytes : List ℕ) (operation : Option Operation) (file : LinkedFile)
    → option_and_then (λ operation. if_linked_file (linked_free bytes operation) bytes) operation ≡ Some file → is_linked_within file ≡ true
linked-by bytes None file e = cc
linked-by bytes (Some operation) file e = if_linked-within bytes (linked_free bytes operation) file e

linked_of-within : (bytes : List ℕ) (file : LinkedFile) → linked_of bytes ≡ Some file → is_linked_within file ≡ true
unfolding linked_of
linked_of-within bytes file e = linked-by bytes (operation_of (slice_index bytes 155)) file e

read-by : (small : Option SmallFile) (linked : Option LinkedFile) (file : TaskFile) → ((own : SmallFile) → small ≡ Some own → is_small_within own ≡ true)
    → ((own : LinkedFile) → linked ≡ Some own → is_linked_within own ≡ true) → option_or (option_map small_task small) (option_map linked_task linked) ≡ Some file
    → IsWithin file
read-by (Some own) linked file small_is linked_is e = let same : small_task own ≡ file = cc in subst IsWithin same (small-within own (small_is own refl))
read-by None (Some own) file small_is linked_is e = let same : linked_task own ≡ file = cc in subst IsWithin same (linked-within own (linked_is own refl))
read-by None None file small_is linked_is e = cc

read-within : (bytes : List ℕ) (file : TaskFile) → task_file_of bytes ≡ Some file → IsWithin file
unfolding task_file_of
read-within bytes file e = read-by (small_of bytes) (linked_of bytes) file (small_of-within bytes) (linked_of-within bytes) e

all-within : (files : Files) → AllByRecursion IsWithin (task_files files)
unfolding task_files
all-within files = holds-given IsWithin (λ file. task_file_of file.1) (class_files files) (λ file own is. read-within file.1 own is)

-- what the graph of a build says of a task is within its bounds
pub known-within : (files : Files) (task : ℕ) (file : TaskFile) → file_with (build_graph files) task ≡ Some file → IsWithin file
unfolding graph_of
known-within files task file e =
    holds-found IsWithin (λ own. own.task == task) (build_graph files) file (holds-given IsWithin (file_with (task_files files)) letters found) e where
      found : (letter : ℕ) (own : TaskFile) → file_with (task_files files) letter ≡ Some own → IsWithin own
      found letter own is = holds-found IsWithin (λ one. one.task == letter) (task_files files) own (all-within files) is
