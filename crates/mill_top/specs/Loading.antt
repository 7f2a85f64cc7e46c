-- How the class files of a build are loaded, before anything is asked of their tasks.
use Rattle.std.specs.Prelude.{◌≡◌, ℕ, ◌^◌, Bool, List, length, nat_le, ◌&&◌, Option, Some, None}
use Rattle.std.specs.Option.{option_map}
use Rattle.std.specs.List.{find}
use Rattle.io_traits.specs.Files.{File, Files}
use Rattle.class_model.specs.declared.class_file.Class.{Class}
use Rattle.class_read.specs.ClassFiles.{is_class_path, AreClassesOf}
use Rattle.class_read.specs.Limits.{IsWithinLimits}
use Rattle.class_read.specs.Loading.{IsLoadFaultOf}
use Rattle.class_verify.specs.Programs.{IsVerified}
use Rattle.mill_top.specs.declared.build_fault.BuildFault.{BuildFault}
use Rattle.mill_top.specs.declared.build_fault.BuildFault.TheVariants.{TooLong, Load}

-- whether it is a class file with more bytes than its places count
abbrev pub is_too_long : File → Bool
is_too_long file = is_class_path file.0 && nat_le (2 ^ 32) (length file.1)

-- the path of the first such file
abbrev pub too_long : Files → Option (List ℕ)
too_long files = option_map (λ file. file.0) (find is_too_long files)

-- the class files are a verified program within the limits
pub record IsLoaded (files : Files) : Type 0 where
  pub none_too_long : too_long files ≡ None
  pub classes : List Class
  pub read : AreClassesOf files classes
  pub verified : IsVerified classes
  pub within : IsWithinLimits classes

-- the class files are none, and this is the first cause: one that is too long comes before those of loading
abbrev pub IsUnloaded : Files → BuildFault → Type 0
IsUnloaded files (TooLong path) = too_long files ≡ Some path
IsUnloaded files (Load fault) = (too_long files ≡ None) × IsLoadFaultOf files fault
IsUnloaded files fault = ⊥
