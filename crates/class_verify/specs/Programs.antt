-- Verified programs.
use Rattle.std.specs.Prelude.{◌≡◌, true, List, ◌∷◌, ◌++◌, map, All, is_none}
use Rattle.jvm_tables.specs.Externals.{external_of}
use Rattle.class_model.specs.declared.class_file.Class.{Class}
use Rattle.class_model.specs.Programs.{IsProgram}
use Rattle.class_model.specs.Shape.{class_name}
use Rattle.class_index.specs.Outlines.{outline}
use Rattle.class_index.specs.Supers.{IsWhole}
use Rattle.class_verify.specs.declared.fault.VerifyFault.{VerifyFault}
use Rattle.class_verify.specs.Verified.{Fits, IsMisfitOf}

-- no class has the name of a class that is outside every program
abbrev pub HasOwnNames : List Class → Type 0
HasOwnNames classes = All (λ c. is_none (external_of (class_name c)) ≡ true) classes

-- Shaped classes with distinct names, none of them that of an external class; no superclass is missing, no chain of
-- supers returns, and every class fits.
pub record IsVerified (classes : List Class) : Type 0 where
  pub program : IsProgram classes
  pub own_names : HasOwnNames classes
  pub whole : IsWhole (map outline classes)
  pub fits : All Fits classes

-- the first class in list order that doesn't fit
pub record IsFirstUnfit (classes : List Class) (fault : VerifyFault) : Type 0 where
  pub front : List Class
  pub class : Class
  pub back : List Class
  pub order : classes ≡ front ++ (class ∷ back)
  pub before : All Fits front
  pub misfit : IsMisfitOf class fault
