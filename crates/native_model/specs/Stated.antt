-- What the table of natives states of their arguments.
use Rattle.std.specs.Prelude.{List, ◌∷◌, if◌then◌else◌}
use Rattle.jvm_tables.specs.Natives.{Native}
use Rattle.jvm_tables.specs.declared.instruction.ValueKind.{ValueKind}
use Rattle.jvm_tables.specs.declared.instruction.ValueKind.TheVariants.{Reference}
use Rattle.class_code.specs.Types.{parameter_kinds}

-- the kinds of its descriptor's parameters, behind its receiver's unless it is static (JVMS 4.3.3)
abbrev pub stated_kinds : Native → List ValueKind
stated_kinds native =
    if native.is_static then parameter_kinds native.descriptor else Reference ∷ parameter_kinds native.descriptor
