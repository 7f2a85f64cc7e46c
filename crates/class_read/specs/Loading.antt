-- What a refusal says of the class files of a build.
use Rattle.std.specs.Prelude.{◌≡◌, ◌≢◌, ℕ, Bool, true, false, List, ◌∷◌, ◌++◌, All, IsOk}
use Rattle.class_model.specs.declared.class_file.Class.{Class}
use Rattle.class_text.specs.Classes.{class_of}
use Rattle.class_index.specs.Least.{IsLeast}
use Rattle.class_index.specs.declared.fault.IndexFault.TheVariants as index_faults
use Rattle.class_verify.specs.CheckFaults.{IsCheckFaultOf}
use Rattle.class_verify.specs.declared.program_ok.CheckFault.{CheckFault}
use Rattle.class_verify.specs.declared.program_ok.CheckFault.TheVariants.{Index, Verify}
use Rattle.class_verify.specs.declared.fault.VerifyFault.TheVariants as verify_faults
use Rattle.const_pool.specs.declared.class_fault.ClassFault.{ClassFault}
use Rattle.const_pool.specs.declared.class_fault.ClassFault.TheVariants as class_faults
use Rattle.class_read.specs.declared.load_fault.LoadFault.{LoadFault}
use Rattle.class_read.specs.declared.load_fault.LoadFault.TheVariants.{BadClass, DuplicateClass, TooMany, Check, Memory}
use Rattle.class_read.specs.ClassFiles.{Files, class_files, AreClassesOf}
use Rattle.const_pool.specs.Faults.{Fails}
use Rattle.class_read.specs.Limits.{IsFirstPassed, IsWithinLimits}
use Rattle.class_read.specs.Twice.{IsTwice, IsEachOnce}

-- The bytes are no class file, for this reason.
pub record IsBad (fault : ClassFault) (bytes : List ℕ) : Type 0 where
  pub reason : Fails fault (class_of bytes)
  pub not_memory : fault ≢ class_faults.Memory

-- what a refusal of the file at a path says
abbrev pub IsBadAt : List ℕ → List ℕ → LoadFault → Type 0
IsBadAt path bytes (BadClass at fault) = (at ≡ path) × IsBad fault bytes
IsBadAt path bytes Memory = Unit {0}
IsBadAt path bytes _ = ⊥

-- the first class file that is none
pub record IsFirstBad (files : Files) (path : List ℕ) (fault : ClassFault) : Type 0 where
  pub front : Files
  pub bytes : List ℕ
  pub back : Files
  pub order : class_files files ≡ front ++ ((path, bytes) ∷ back)
  pub before : All (λ file. IsOk (class_of file.1)) front
  pub bad : IsBad fault bytes

abbrev pub is_memory : CheckFault → Bool
is_memory (Index index_faults.Memory) = true
is_memory (Verify verify_faults.Memory) = true
is_memory _ = false

-- The hierarchy is not whole, or a class doesn't fit, for this reason.
pub record IsUnverified (classes : List Class) (fault : CheckFault) : Type 0 where
  pub reason : IsCheckFaultOf classes fault
  pub not_memory : is_memory fault ≡ false

-- What a refusal says of classes that are read: names come first, then limits, then verification.
abbrev pub IsSetFaultOf : List Class → LoadFault → Type 0
IsSetFaultOf classes (BadClass path fault) = ⊥
IsSetFaultOf classes (DuplicateClass name) = IsLeast (IsTwice classes) name
IsSetFaultOf classes (TooMany limit) = IsEachOnce classes × IsFirstPassed limit classes
IsSetFaultOf classes (Check fault) = IsEachOnce classes × IsWithinLimits classes × IsUnverified classes fault
IsSetFaultOf classes Memory = Unit {0}

-- The class files are classes of which the refusal says this.
pub record HasSetFault (files : Files) (fault : LoadFault) : Type 0 where
  pub classes : List Class
  pub read : AreClassesOf files classes
  pub cause : IsSetFaultOf classes fault

-- A file that is no class comes before all else.
abbrev pub IsLoadFaultOf : Files → LoadFault → Type 0
IsLoadFaultOf files (BadClass path fault) = IsFirstBad files path fault
IsLoadFaultOf files (DuplicateClass name) = HasSetFault files (DuplicateClass name)
IsLoadFaultOf files (TooMany limit) = HasSetFault files (TooMany limit)
IsLoadFaultOf files (Check fault) = HasSetFault files (Check fault)
IsLoadFaultOf files Memory = Unit {0}
