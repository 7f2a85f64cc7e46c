-- Class files that are verified classes within the limits have no fault but a want of memory.
use Rattle.std.proofs.Common.{◌≡◌, ℕ, true, List, Result, Ok, Err, refl, sym, ap, ◌∙◌, subst, inl, inr, arith}
use Rattle.std.specs.Prelude.{IsOk, IfOk, IfErr, MatchResult}
use Rattle.class_model.specs.declared.class_file.Class.{Class}
use Rattle.class_text.specs.Reading.{Fault}
use Rattle.class_text.specs.Classes.{class_of}
use Rattle.class_index.specs.declared.fault.IndexFault.TheVariants as index_faults
use Rattle.class_index.specs.Least.{IsIn}
use Rattle.class_verify.specs.declared.fault.VerifyFault.{VerifyFault}
use Rattle.class_verify.specs.declared.program_ok.CheckFault.{CheckFault}
use Rattle.class_verify.specs.declared.program_ok.CheckFault.TheVariants.{Index, Verify}
use Rattle.class_verify.specs.CheckFaults.{IsCheckFaultOf}
use Rattle.class_verify.specs.Programs.{IsVerified}
use Rattle.class_verify.specs.Verified.{Fits}
use Rattle.class_verify.proofs.Verifying.{only_memory}
use Rattle.const_pool.proofs.Faults.{never}
use Rattle.const_pool.specs.declared.class_fault.ClassFault.{ClassFault}
use Rattle.class_read.specs.declared.limits.Limit.{Limit}
use Rattle.class_read.specs.declared.limits.Limit.TheVariants.{Classes, Methods}
use Rattle.class_read.specs.declared.load_fault.LoadFault.{LoadFault}
use Rattle.class_read.specs.declared.load_fault.LoadFault.TheVariants.{BadClass, DuplicateClass, TooMany, Check, Memory}
use Rattle.class_read.specs.ClassFiles.{File, Files, class_files, AreClassesOf}
use Rattle.class_read.specs.Limits.{IsWithinLimits, IsFirstPassed}
use Rattle.class_read.specs.Loading.{IsFirstBad, is_memory, IsSetFaultOf, HasSetFault, IsLoadFaultOf}
use Rattle.class_read.specs.Twice.{IsTwice}
use Rattle.class_read.proofs.ClassFileLemmas.{all_read, among, classes_once}
use Rattle.class_read.proofs.TwiceLemmas.{none_external}

-- a fault of classes that were read
pub fault_of_set : (files : Files) (classes : List Class) (fault : LoadFault) → AreClassesOf files classes → IsSetFaultOf classes fault → IsLoadFaultOf files fault
fault_of_set files classes (BadClass path fault) are is = absurd is
fault_of_set files classes (DuplicateClass name) are is = record { classes = classes; read = are; cause = is }
fault_of_set files classes (TooMany limit) are is = record { classes = classes; read = are; cause = is }
fault_of_set files classes (Check fault) are is = record { classes = classes; read = are; cause = is }
fault_of_set files classes Memory are is = tt

found : (bytes : List ℕ) → IsOk (class_of bytes) → (c : Class) × (class_of bytes ≡ Ok c)
found bytes ok = go (class_of bytes) refl ok
  where
    go : (r : Result Class Fault) → class_of bytes ≡ r → IsOk r → (c : Class) × (class_of bytes ≡ Ok c)
    go (Ok c) e is = (c, e)
    go (Err f) e is = cc

none_bad : (files : Files) (classes : List Class) (path : List ℕ) (fault : ClassFault) → AreClassesOf files classes → IsFirstBad files path fault → ⊥
none_bad files classes path fault are first =
    let ok : IsOk (class_of first.bytes) = among (λ (f : File). IsOk (class_of f.1)) (class_files files) first.front first.back (path, first.bytes) first.order (all_read (class_files files) classes are) in
    let c = found first.bytes ok in
    first.bad.not_memory (never (class_of first.bytes) c.0 fault c.1 first.bad.reason)

-- of verified classes only a want of memory is refused
only_check : (classes : List Class) (fault : CheckFault) → IsVerified classes → IsCheckFaultOf classes fault → is_memory fault ≡ true
only_check classes (Index (index_faults.MissingSuper name)) ok is = absurd (subst (IsIn name) ok.whole.supers is.among)
only_check classes (Index (index_faults.CyclicSuper name)) ok is = absurd (ok.whole.ends name is.1.among)
only_check classes (Index index_faults.Memory) ok is = refl
only_check classes (Verify fault) ok is =
    let first = is.1 in
    let fits : Fits first.class = among Fits classes first.front first.back first.class first.order ok.fits in
    ap (λ (f : VerifyFault). is_memory (Verify f)) (only_memory first.class first.class.methods fault fits first.misfit)

none_passed : (classes : List Class) (limit : Limit) → IsWithinLimits classes → IsFirstPassed limit classes → ⊥
none_passed classes Classes within is = omega (arith, within.few_classes, is)
none_passed classes Methods within is = omega (arith, within.few_methods, is.1)

none_twice : (classes : List Class) (name : List ℕ) → IsVerified classes → IsTwice classes name → ⊥
none_twice classes name ok (inl two) = omega (arith, two, ok.program.distinct name)
none_twice classes name ok (inr more) = none_external classes name ok.own_names more

only_set : (classes : List Class) (fault : LoadFault) → IsVerified classes → IsWithinLimits classes → IsSetFaultOf classes fault → fault ≡ Memory
only_set classes (BadClass path fault) ok within is = absurd is
only_set classes (DuplicateClass name) ok within is = absurd (none_twice classes name ok is.among)
only_set classes (TooMany limit) ok within is = absurd (none_passed classes limit within is.1)
only_set classes (Check fault) ok within is = absurd (let yes = only_check classes fault ok is.2.reason in let no = is.2.not_memory in cc)
only_set classes Memory ok within is = refl

same : (files : Files) (one other : List Class) → AreClassesOf files one → AreClassesOf files other → one ≡ other
same files one other are also = classes_once one other (sym are ∙ also)

only_of_set : (files : Files) (classes : List Class) (fault : LoadFault) → AreClassesOf files classes → IsVerified classes → IsWithinLimits classes → HasSetFault files fault → fault ≡ Memory
only_of_set files classes fault are ok within is =
    only_set classes fault ok within (subst (λ (cs : List Class). IsSetFaultOf cs fault) (same files is.classes classes is.read are) is.cause)

-- files that are verified classes within the limits are refused for want of memory alone
pub only_fault : (files : Files) (fault : LoadFault) → IsLoadFaultOf files fault → (classes : List Class) → AreClassesOf files classes → IsVerified classes → IsWithinLimits classes → fault ≡ Memory
only_fault files (BadClass path fault) is classes are ok within = absurd (none_bad files classes path fault are is)
only_fault files (DuplicateClass name) is classes are ok within = only_of_set files classes (DuplicateClass name) are ok within is
only_fault files (TooMany limit) is classes are ok within = only_of_set files classes (TooMany limit) are ok within is
only_fault files (Check fault) is classes are ok within = only_of_set files classes (Check fault) are ok within is
only_fault files Memory is classes are ok within = refl

-- what is answered once the files are read as classes
pub accepted : (files : Files) (read : List Class) (result : Result (List Class) LoadFault) → AreClassesOf files read → IfOk result (λ p. p ≡ read) → IfErr result (λ f. IsSetFaultOf read f)
    → (classes : List Class) → AreClassesOf files classes → IsVerified classes → IsWithinLimits classes → MatchResult result (λ p. p ≡ classes) (λ f. f ≡ Memory)
accepted files read (Ok p) is here fault classes are ok within = here ∙ same files read classes is are
accepted files read (Err f) is here fault classes are ok within = only_fault files f (fault_of_set files read f is fault) classes are ok within
