-- What refused builds are told by. Names and paths are escaped, so that each line is one line.
use Rattle.std.specs.Prelude.{ℕ, Bool, true, false, List, [], ◌∷◌, ◌++◌, codes}
use Rattle.std.specs.Fmt.{decimal}
use Rattle.class_index.specs.declared.fault.IndexFault.{IndexFault}
use Rattle.class_index.specs.declared.fault.IndexFault.TheVariants as index
use Rattle.class_model.specs.declared.identifiers.MethodId.{MethodId}
use Rattle.const_pool.specs.declared.class_fault.ClassFault.{ClassFault}
use Rattle.const_pool.specs.declared.class_fault.ClassFault.TheVariants as class
use Rattle.class_verify.specs.declared.fault.VerifyFault.{VerifyFault}
use Rattle.class_verify.specs.declared.fault.VerifyFault.TheVariants as verify
use Rattle.class_verify.specs.declared.program_ok.CheckFault.{CheckFault}
use Rattle.class_verify.specs.declared.program_ok.CheckFault.TheVariants as check
use Rattle.class_read.specs.Limits.{most}
use Rattle.line_text.specs.Lines.{line_of_name, line_of_path}
use Rattle.mill_top.specs.declared.build_fault.BuildFault.{BuildFault}
use Rattle.mill_top.specs.declared.build_fault.BuildFault.TheVariants.{TooLong, Load, NotBuilt, DuplicateTask, UnknownInput, Cycle, Memory}
use Rattle.class_read.specs.declared.limits.Limit.{Limit}
use Rattle.class_read.specs.declared.limits.Limit.TheVariants.{Classes, Methods}
use Rattle.class_read.specs.declared.load_fault.LoadFault.{LoadFault}
use Rattle.class_read.specs.declared.load_fault.LoadFault.TheVariants as load

-- whether memory was wanted and not there
abbrev pub wants_memory : BuildFault → Bool
wants_memory Memory = true
wants_memory (Load load.Memory) = true
wants_memory fault = false

-- a method: its class, a point, its name and its descriptor
unfoldable pub method_line : MethodId → List ℕ
method_line method = line_of_name method.class ++ codes "." ++ line_of_name method.name ++ line_of_name method.descriptor

-- the first bad place of a class file
abbrev pub class_line : ClassFault → List ℕ
class_line class.BadMagic = codes "bad magic"
class_line (class.BadMajor version) = codes "bad major " ++ decimal version
class_line (class.CutShort at) = codes "cut short at " ++ decimal at
class_line (class.BadTag at tag) = codes "bad tag " ++ decimal tag ++ codes " at " ++ decimal at
class_line (class.BadUtf8 at) = codes "bad text at " ++ decimal at
class_line (class.BadIndex at) = codes "bad index at " ++ decimal at
class_line (class.BadAttribute at) = codes "bad attribute at " ++ decimal at
class_line (class.SecondAttribute at) = codes "second attribute at " ++ decimal at
class_line (class.CodeMissing at) = codes "code missing at " ++ decimal at
class_line (class.BytesLeft at) = codes "bytes left at " ++ decimal at
class_line class.Memory = codes "memory"

abbrev pub limit_name : Limit → List ℕ
limit_name Classes = codes "classes"
limit_name Methods = codes "methods"

abbrev pub index_line : IndexFault → List ℕ
index_line (index.MissingSuper name) = codes "missing super " ++ line_of_name name
index_line (index.CyclicSuper name) = codes "cyclic super " ++ line_of_name name
index_line index.Memory = codes "memory"

-- a method, and what is wrong at a pc of its code
abbrev pub misfit_line : MethodId → List ℕ → ℕ → List ℕ
misfit_line method what pc = method_line method ++ what ++ decimal pc

-- the first misfit of a method
abbrev pub verify_line : VerifyFault → List ℕ
verify_line (verify.FloatUsed method) = method_line method ++ codes ": float used"
verify_line (verify.BadCode method pc) = misfit_line method (codes ": bad code at ") pc
verify_line (verify.BadJump method pc) = misfit_line method (codes ": bad jump at ") pc
verify_line (verify.UnknownBootstrap method pc) = misfit_line method (codes ": unknown bootstrap at ") pc
verify_line (verify.BadFrame method pc) = misfit_line method (codes ": bad frame at ") pc
verify_line verify.Memory = codes "memory"

abbrev pub check_line : CheckFault → List ℕ
check_line (check.Index fault) = index_line fault
check_line (check.Verify fault) = verify_line fault

abbrev pub load_line : LoadFault → List ℕ
load_line (load.BadClass path fault) = line_of_path path ++ codes ": " ++ class_line fault
load_line (load.DuplicateClass name) = codes "duplicate class " ++ line_of_name name
load_line (load.TooMany limit) = codes "too many " ++ limit_name limit ++ codes ": " ++ decimal (most limit)
load_line (load.Check fault) = check_line fault
load_line load.Memory = codes "memory"

-- The line of a refused build. Where memory was wanted, the reply is `memory` in the place of this.
abbrev pub build_line : BuildFault → List ℕ
build_line (TooLong path) = codes "not built: " ++ line_of_path path
build_line (Load fault) = codes "build: " ++ load_line fault
build_line (NotBuilt path) = codes "not built: " ++ line_of_path path
build_line (DuplicateTask task) = codes "build: duplicate task " ++ task ∷ []
build_line (UnknownInput input task) = codes "build: unknown input " ++ input ∷ (codes " of " ++ task ∷ [])
build_line (Cycle task) = codes "build: cycle through " ++ task ∷ []
build_line Memory = codes "memory"
