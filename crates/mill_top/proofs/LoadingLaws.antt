-- Laws of class files that are too long.
use Rattle.std.proofs.Common.{◌≡◌, ℕ, ◌<◌, ◌^◌, Bool, true, false, nat_le, cond, ◌&&◌, ◌⊎◌, inl, List, [], ◌∷◌, length, All, Option, Some, None, refl, sym, ap, ◌∙◌, arith}
use Rattle.std.specs.List.{find, AllByRecursion}
use Rattle.std.specs.Option.{option_map}
use Rattle.std.proofs.lemmas.Bool.{leb-false}
use Rattle.std.proofs.lemmas.List.Elements.{All-from_recursion}
use Rattle.io_traits.specs.Files.{File, Files}
use Rattle.class_read.specs.ClassFiles.{is_class_path, class_files}
use Rattle.class_read.specs.Loading.{IsLoadFaultOf}
use Rattle.class_read.specs.declared.load_fault.LoadFault.{LoadFault}
use Rattle.class_read.proofs.Acceptance.{only_fault}
use Rattle.mill_top.specs.declared.build_fault.BuildFault.{BuildFault}
use Rattle.mill_top.specs.declared.build_fault.BuildFault.TheVariants.{TooLong, Load, NotBuilt, DuplicateTask, UnknownInput, Cycle, Memory}
use Rattle.mill_top.specs.BuildFaults.{wants_memory}
use Rattle.mill_top.specs.Loading.{is_too_long, too_long, IsLoaded, IsUnloaded}

pub long_unloaded : (files : Files) (file : File) (fault : BuildFault) → find is_too_long files ≡ Some file → (fault ≡ TooLong file.0) ⊎ (fault ≡ Memory)
    → (own : BuildFault) × IsUnloaded files own × ((fault ≡ own) ⊎ (fault ≡ Memory))
long_unloaded files file fault found is = (TooLong file.0, ap (option_map (λ own. own.0)) found, is)

pub none_long : (files : Files) → find is_too_long files ≡ None → too_long files ≡ None
none_long files none = ap (option_map (λ own. own.0)) none

pub refused_unloaded : (files : Files) (fault : LoadFault) → find is_too_long files ≡ None → IsLoadFaultOf files fault
    → (own : BuildFault) × IsUnloaded files own × ((Load fault ≡ own) ⊎ (Load fault ≡ Memory))
refused_unloaded files fault none is = (Load fault, (none_long files none, is), inl refl)

-- what is loaded isn't refused
pub apart : (files : Files) → IsLoaded files → (own : BuildFault) → IsUnloaded files own → wants_memory own ≡ true
apart files loaded (TooLong path) is = let differ : None ≡ Some path = sym loaded.none_too_long ∙ is in cc
apart files loaded (Load fault) (none, is) = ap (λ own. wants_memory (Load own)) (only_fault files fault is loaded.classes loaded.read loaded.verified loaded.within)
apart files loaded (NotBuilt path) is = absurd is
apart files loaded (DuplicateTask task) is = absurd is
apart files loaded (UnknownInput input task) is = absurd is
apart files loaded (Cycle task) is = absurd is
apart files loaded Memory is = absurd is

-- ---- where none is too long, each has less than 2 ^ 32 bytes

abbrev IsShort : File → Type 0
IsShort file = length file.1 < 2 ^ 32

none_by : (long : Bool) (file : File) (rest : Option File) → cond long (Some file) rest ≡ None → (long ≡ false) × (rest ≡ None)
none_by true file rest e = cc
none_by false file rest e = (refl, e)

short_by : (is_class : Bool) (file : File) (rest : Files) → AllByRecursion IsShort rest → (is_class && nat_le (2 ^ 32) (length file.1)) ≡ false → AllByRecursion IsShort (cond is_class (file ∷ rest) rest)
short_by true file rest short e = (leb-false (2 ^ 32) (length file.1) e, short)
short_by false file rest short e = short

are_short : (files : Files) → find is_too_long files ≡ None → AllByRecursion IsShort (class_files files)
are_short [] none = tt
are_short (file ∷ files) none =
    let both = none_by (is_too_long file) file (find is_too_long files) none in
    short_by (is_class_path file.0) file (class_files files) (are_short files both.1) both.0

pub class_files_short : (files : Files) → find is_too_long files ≡ None → All (λ file. length file.1 < 2 ^ 32) (class_files files)
class_files_short files none = All-from_recursion IsShort (class_files files) (are_short files none)
