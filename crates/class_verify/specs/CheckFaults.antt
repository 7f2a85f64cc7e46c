-- What a refusal says of a program.
use Rattle.std.specs.Prelude.{List, map}
use Rattle.class_model.specs.declared.class_file.Class.{Class}
use Rattle.class_index.specs.Faults.{IsFaultOf}
use Rattle.class_index.specs.Outlines.{outline}
use Rattle.class_index.specs.Supers.{IsWhole}
use Rattle.class_verify.specs.declared.program_ok.CheckFault.{CheckFault}
use Rattle.class_verify.specs.declared.program_ok.CheckFault.TheVariants.{Index, Verify}
use Rattle.class_verify.specs.Programs.{IsFirstUnfit}

-- The hierarchy comes first, then the code of class after class.
abbrev pub IsCheckFaultOf : List Class → CheckFault → Type 0
IsCheckFaultOf classes (Index fault) = IsFaultOf (map outline classes) fault
IsCheckFaultOf classes (Verify fault) = IsWhole (map outline classes) × IsFirstUnfit classes fault
