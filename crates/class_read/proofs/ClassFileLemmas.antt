-- Reading class files one after another.
use Rattle.std.proofs.Common.{◌≡◌, ℕ, ◌+◌, ◌<◌, ◌≤◌, Bool, true, false, cond, List, [], ◌∷◌, ◌++◌, length, take, drop, get_or, map, Result, Ok, refl, sym, ap, ◌∙◌, subst, arith}
use Rattle.std.specs.Prelude.{All, Contains, IsOk, is_ok}
use Rattle.std.proofs.Math.Seq.{get_or-append_seam}
use Rattle.std.proofs.lemmas.List.{append-nil, length-append, map-append, take_all}
use Rattle.std.proofs.lemmas.List.Elements.{All-nil, All-cons, All-contains, filter-append, filter_more}
use Rattle.class_model.specs.declared.class_file.Class.{Class}
use Rattle.class_model.specs.Shape.{Shaped}
use Rattle.class_model.specs.Spelling as spelling
use Rattle.class_text.specs.Reading.{Fault}
use Rattle.class_text.specs.Classes.{class_of}
use Rattle.class_text.proofs.ClassLaws.{class_again}
use Rattle.class_verify.proofs.Verifying.{around}
use Rattle.const_pool.specs.declared.class_fault.ClassFault.{ClassFault}
use Rattle.class_read.specs.declared.load_fault.LoadFault.{LoadFault}
use Rattle.class_read.specs.declared.load_fault.LoadFault.TheVariants.{BadClass, DuplicateClass, TooMany, Check, Memory}
use Rattle.class_read.specs.ClassFiles.{File, Files, is_class_path, class_files, AreClassesOf}
use Rattle.class_read.specs.Loading.{IsBad, IsBadAt, IsFirstBad, IsLoadFaultOf}

-- what is spelled is read
pub read_again : (bytes : List ℕ) (c : Class) → Shaped c × (bytes ≡ spelling.class c) → class_of bytes ≡ Ok c
read_again bytes c is = ap class_of is.1 ∙ class_again c is.0

abbrev test : File → Bool
test file = is_class_path file.0

abbrev read : File → Result Class Fault
read file = class_of file.1

more_files : (files : Files) (i : ℕ) (file : File) (b : Bool) → i < length files → file ≡ get_or files i file → is_class_path file.0 ≡ b
    → class_files (take (i + 1) files) ≡ class_files (take i files) ++ cond b (file ∷ []) []
more_files files i file b h is path =
    filter_more test files i file h ∙ ap (λ (x : File). class_files (take i files) ++ cond (test x) (x ∷ []) []) (sym is) ∙ ap (λ (t : Bool). class_files (take i files) ++ cond t (file ∷ []) []) path

pub one_more_class : (files : Files) (i : ℕ) (file : File) (classes : List Class) (c : Class) → i < length files → file ≡ get_or files i file → is_class_path file.0 ≡ true → class_of file.1 ≡ Ok c
    → AreClassesOf (take i files) classes → AreClassesOf (take (i + 1) files) (classes ++ c ∷ [])
one_more_class files i file classes c h is path found before =
    ap (map read) (more_files files i file true h is path)
    ∙ map-append read (class_files (take i files)) (file ∷ [])
    ∙ ap (λ (rs : List (Result Class Fault)). rs ++ class_of file.1 ∷ []) before
    ∙ ap (λ (r : Result Class Fault). map Ok classes ++ r ∷ []) found
    ∙ sym (map-append Ok classes (c ∷ []))

pub no_class_file : (files : Files) (i : ℕ) (file : File) (classes : List Class) → i < length files → file ≡ get_or files i file → is_class_path file.0 ≡ false
    → AreClassesOf (take i files) classes → AreClassesOf (take (i + 1) files) classes
no_class_file files i file classes h is path before =
    ap (map read) (more_files files i file false h is path ∙ append-nil (class_files (take i files))) ∙ before

pub all_classes : (files : Files) (i : ℕ) (classes : List Class) → length files ≤ i → AreClassesOf (take i files) classes → AreClassesOf files classes
all_classes files i classes h are = subst (λ (fs : Files). AreClassesOf fs classes) (take_all i files h) are

-- a class file between those before it and those behind it
between : (files : Files) (i : ℕ) (file : File) → i < length files → file ≡ get_or files i file → is_class_path file.0 ≡ true
    → class_files files ≡ class_files (take i files) ++ (file ∷ class_files (drop (i + 1) files))
between files i file h is path =
    ap class_files (around files i file h is)
    ∙ filter-append test (take i files) (file ∷ drop (i + 1) files)
    ∙ ap (λ (t : Bool). class_files (take i files) ++ cond t (file ∷ class_files (drop (i + 1) files)) (class_files (drop (i + 1) files))) path

-- files that are read as classes
pub all_read : (files : Files) (classes : List Class) → map read files ≡ map Ok classes → All (λ file. IsOk (read file)) files
all_read [] classes e = All-nil (λ (f : File). IsOk (read f))
all_read (f ∷ fs) [] e = cc
all_read (f ∷ fs) (c ∷ cs) e =
    let here : read f ≡ Ok c = cc in
    let rest : map read fs ≡ map Ok cs = cc in
    All-cons (λ (f : File). IsOk (read f)) f fs (ap is_ok here) (all_read fs cs rest)

pub among : {A : Type 0} (P : A → Type 0) (xs front back : List A) (x : A) → xs ≡ front ++ (x ∷ back) → All P xs → P x
among {A} P xs front back x order all =
    let there : Contains (front ++ (x ∷ back)) x = (length front, omega (arith, length-append front (x ∷ back)), get_or-append_seam front x back x) in
    All-contains P xs x all (subst (λ (ys : List A). Contains ys x) (sym order) there)

-- what holds of each class file holds of the one at a place
pub at_class_file : (P : File → Type 0) (files : Files) (i : ℕ) (file : File) → i < length files → file ≡ get_or files i file → is_class_path file.0 ≡ true → All P (class_files files) → P file
at_class_file P files i file h is path all =
    among P (class_files files) (class_files (take i files)) (class_files (drop (i + 1) files)) file (between files i file h is path) all

first_bad : (files : Files) (i : ℕ) (file : File) (classes : List Class) (fault : ClassFault) → i < length files → file ≡ get_or files i file → is_class_path file.0 ≡ true
    → AreClassesOf (take i files) classes → IsBad fault file.1 → IsFirstBad files file.0 fault
first_bad files i file classes fault h is path before bad = record {
  front = class_files (take i files);
  bytes = file.1;
  back = class_files (drop (i + 1) files);
  order = between files i file h is path;
  before = all_read (class_files (take i files)) classes before;
  bad = bad;
}

-- the refusal of a class file refuses the files
pub refused_at : (files : Files) (i : ℕ) (file : File) (classes : List Class) (fault : LoadFault) → i < length files → file ≡ get_or files i file → is_class_path file.0 ≡ true
    → AreClassesOf (take i files) classes → IsBadAt file.0 file.1 fault → IsLoadFaultOf files fault
refused_at files i file classes (BadClass path fault) h is path_is before (at, bad) =
    subst (λ (p : List ℕ). IsFirstBad files p fault) (sym at) (first_bad files i file classes fault h is path_is before bad)
refused_at files i file classes (DuplicateClass name) h is path before bad = absurd bad
refused_at files i file classes (TooMany limit) h is path before bad = absurd bad
refused_at files i file classes (Check fault) h is path before bad = absurd bad
refused_at files i file classes Memory h is path before bad = tt

abbrev given : Class → Result Class Fault
given c = Ok c

-- files are read as one list of classes
pub classes_once : (xs ys : List Class) → map given xs ≡ map given ys → xs ≡ ys
classes_once [] [] e = refl
classes_once [] (y ∷ ys) e = cc
classes_once (x ∷ xs) [] e = cc
classes_once (x ∷ xs) (y ∷ ys) e =
    let here : x ≡ y = cc in
    let heads : map given xs ≡ map given ys = cc in
    let rest = classes_once xs ys heads in
    cc
