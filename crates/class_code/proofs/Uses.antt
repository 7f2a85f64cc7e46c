-- What a row alone tells of the values of its instructions.
use Rattle.std.proofs.Common.{◌≡◌, ℕ, false, List, [], Option, Some, ap, ◌∙◌}
use Rattle.jvm_tables.specs.declared.code.Instr.{Instr}
use Rattle.jvm_tables.specs.declared.instruction.OpRow.{OpRow}
use Rattle.jvm_tables.specs.declared.instruction.Operands.{Operands}
use Rattle.jvm_tables.specs.declared.instruction.Operands.TheVariants.{ByConstant, ReferenceByConstant, IntForEachDimension}
use Rattle.jvm_tables.specs.declared.instruction.ValueKind.{ValueKind}
use Rattle.jvm_tables.specs.Agreement.{uses_constant}
use Rattle.jvm_tables.specs.Kinds.{kinds_of}
use Rattle.class_model.specs.declared.class_file.Class.{Class}
use Rattle.class_code.specs.Constants.{use_of, values, both, number_of}

values-kinds_of : (operands : Operands) (told : List ValueKind) (made : ℕ) (kinds : List ValueKind) → kinds_of operands ≡ Some kinds → values operands told made ≡ Some kinds
values-kinds_of ByConstant told made kinds e = cc
values-kinds_of ReferenceByConstant told made kinds e = cc
values-kinds_of IntForEachDimension told made kinds e = cc
values-kinds_of _ told made kinds e = e

pub used_by_row : (row : OpRow) (takes gives : List ValueKind) → uses_constant row.constant ≡ false → kinds_of row.takes ≡ Some takes → kinds_of row.gives ≡ Some gives
    → (class : Class) (instr : Instr) → use_of class row instr ≡ Some (record { takes = takes; gives = gives })
unfolding use_of
used_by_row row takes gives none t g class instr =
    let n : ℕ = number_of instr.second in
    rw none (ap (λ (o : Option (List ValueKind)). both o (values row.gives [] n)) (values-kinds_of row.takes [] n takes t)
    ∙ ap (both (Some takes)) (values-kinds_of row.gives [] n gives g))
