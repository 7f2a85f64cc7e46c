-- What a refusal of classes says of them.
use Rattle.std.specs.Prelude.{List}
use Rattle.class_model.specs.declared.class_file.Class.{Class}
use Rattle.class_model.specs.declared.program_list.ProgramFault.{ProgramFault}
use Rattle.class_model.specs.declared.program_list.ProgramFault.TheVariants.{DuplicateClass, Memory}
use Rattle.class_model.specs.Programs.{IsLeastDouble}

abbrev pub IsFaultOf : List Class → ProgramFault → Type 0
IsFaultOf classes (DuplicateClass name) = IsLeastDouble name classes
IsFaultOf classes Memory = Unit {0}
