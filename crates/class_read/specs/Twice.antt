-- Names of more than one class.
use Rattle.std.specs.Prelude.{ℕ, ◌≤◌, ◌⊎◌, List, map, is_some}
use Rattle.std.specs.List.{filter}
use Rattle.jvm_tables.specs.Externals.{external_of}
use Rattle.class_model.specs.declared.class_file.Class.{Class}
use Rattle.class_model.specs.declared.program_list.ProgramFault.{ProgramFault}
use Rattle.class_model.specs.declared.program_list.ProgramFault.TheVariants.{DuplicateClass, Memory}
use Rattle.class_model.specs.Programs.{count_named, HasDistinctNames}
use Rattle.class_model.specs.Shape.{class_name}
use Rattle.class_index.specs.Least.{IsIn, IsLeast}
use Rattle.class_verify.specs.Programs.{HasOwnNames}

-- the names of classes that an external class has too
abbrev pub external_names : List Class → List (List ℕ)
external_names classes = filter (λ name. is_some (external_of name)) (map class_name classes)

-- Two classes have the name, or a class and an external one.
abbrev pub IsTwice : List Class → List ℕ → Type 0
IsTwice classes name = (2 ≤ count_named name classes) ⊎ IsIn name (external_names classes)

-- No two classes have one name, the external ones among them.
pub record IsEachOnce (classes : List Class) : Type 0 where
  pub distinct : HasDistinctNames classes
  pub own : HasOwnNames classes

-- what a refusal of names says
abbrev pub IsNameFault : List Class → ProgramFault → Type 0
IsNameFault classes (DuplicateClass name) = IsLeast (IsTwice classes) name
IsNameFault classes Memory = Unit {0}
