-- When the facts of a row agree with its operand form (JVMS 6.5).
use Rattle.std.specs.Prelude.{ℕ, ◌==◌, Bool, true, false, not, ◌&&◌, ◌||◌, if◌then◌else◌, Option, Some, None, is_none, pos}
use Rattle.std.specs.Ordering.{int_eq}
use Rattle.jvm_tables.specs.declared.instruction.ConstantUse.{ConstantUse}
use Rattle.jvm_tables.specs.declared.instruction.ConstantUse.TheVariants as constants
use Rattle.jvm_tables.specs.declared.instruction.Flow.{Flow}
use Rattle.jvm_tables.specs.declared.instruction.Flow.TheVariants as flows
use Rattle.jvm_tables.specs.declared.instruction.Form.{Form}
use Rattle.jvm_tables.specs.declared.instruction.Form.TheVariants as forms
use Rattle.jvm_tables.specs.declared.instruction.Operands.{Operands}
use Rattle.jvm_tables.specs.declared.instruction.Operands.TheVariants as operands
use Rattle.jvm_tables.specs.declared.instruction.OpRow.{OpRow}
use Rattle.jvm_tables.specs.declared.instruction.ValueKind.{ValueKind}
use Rattle.jvm_tables.specs.declared.instruction.ValueKind.TheVariants as kinds

-- the length of an instruction, and 0 where its operands decide it
abbrev pub length_of : Form → ℕ
length_of forms.Bare = 1
length_of forms.Byte = 2
length_of forms.Short = 3
length_of forms.ByteConstant = 2
length_of forms.Constant = 3
length_of forms.Local = 2
length_of forms.LocalIncrement = 3
length_of forms.Branch = 3
length_of forms.WideBranch = 5
length_of forms.TableSwitch = 0
length_of forms.LookupSwitch = 0
length_of forms.InterfaceCall = 5
length_of forms.CallSite = 5
length_of forms.ElementType = 2
length_of forms.Dimensions = 4
length_of forms.Wide = 0

abbrev pub is_bare : Form → Bool
is_bare forms.Bare = true
is_bare _ = false

abbrev pub names_local : Form → Bool
names_local forms.Local = true
names_local _ = false

abbrev pub increments : Form → Bool
increments forms.LocalIncrement = true
increments _ = false

abbrev pub names_constant : Form → Bool
names_constant forms.ByteConstant = true
names_constant forms.Constant = true
names_constant forms.InterfaceCall = true
names_constant forms.CallSite = true
names_constant forms.Dimensions = true
names_constant _ = false

abbrev pub has_target : Form → Bool
has_target forms.Branch = true
has_target forms.WideBranch = true
has_target _ = false

abbrev pub is_switch : Form → Bool
is_switch forms.TableSwitch = true
is_switch forms.LookupSwitch = true
is_switch _ = false

abbrev pub has_dimensions : Form → Bool
has_dimensions forms.Dimensions = true
has_dimensions _ = false

abbrev pub uses_constant : ConstantUse → Bool
uses_constant constants.Nothing = false
uses_constant _ = true

abbrev pub goes_to_target : Flow → Bool
goes_to_target flows.Branch = true
goes_to_target flows.Jump = true
goes_to_target _ = false

abbrev pub goes_by_key : Flow → Bool
goes_by_key flows.Switch = true
goes_by_key _ = false

abbrev pub goes_on : Flow → Bool
goes_on flows.Next = true
goes_on _ = false

abbrev pub is_nothing : Operands → Bool
is_nothing operands.Nothing = true
is_nothing _ = false

abbrev pub is_int : Operands → Bool
is_int operands.Int = true
is_int _ = false

-- told by the constant that the instruction names
abbrev pub by_constant : Operands → Bool
by_constant operands.ByConstant = true
by_constant operands.ReferenceByConstant = true
by_constant _ = false

abbrev pub by_dimensions : Operands → Bool
by_dimensions operands.IntForEachDimension = true
by_dimensions _ = false

abbrev pub are_float : Operands → Bool
are_float operands.Float = true
are_float _ = false

-- one value of that kind
abbrev pub is_one : ValueKind → Operands → Bool
is_one kinds.Int operands.Int = true
is_one kinds.Long operands.Long = true
is_one kinds.Reference operands.Reference = true
is_one _ _ = false

abbrev pub same : Bool → Bool → Bool
same true b = b
same false b = not b

-- What is read from a local is pushed, what is popped is written to it.
abbrev pub moves_local : Option ValueKind → Option ValueKind → Operands → Operands → Bool
moves_local (Some kind) None takes gives = is_nothing takes && is_one kind gives
moves_local None (Some kind) takes gives = is_one kind takes && is_nothing gives
moves_local _ _ takes gives = false

abbrev pub increments_int : Option ValueKind → Option ValueKind → Operands → Operands → Bool
increments_int (Some kinds.Int) (Some kinds.Int) takes gives = is_nothing takes && is_nothing gives
increments_int _ _ takes gives = false

abbrev pub touches_none : Option ValueKind → Option ValueKind → Bool
touches_none reads writes = is_none reads && is_none writes

-- An instruction that names a local moves a value or increments an int; a bare opcode may imply one.
abbrev pub locals_agree : OpRow → Bool
locals_agree row =
    if names_local row.form then moves_local row.reads row.writes row.takes row.gives
    else if increments row.form then increments_int row.reads row.writes row.takes row.gives
    else if is_bare row.form
    then touches_none row.reads row.writes || moves_local row.reads row.writes row.takes row.gives
    else touches_none row.reads row.writes

-- What the constant or the dimensions tell is told only where there are some. Only what goes on to
-- the next instruction leaves a value.
abbrev pub stack_agrees : OpRow → Bool
stack_agrees row =
    (names_constant row.form || (not (by_constant row.takes) && not (by_constant row.gives)))
    && same (by_dimensions row.takes) (has_dimensions row.form)
    && not (by_dimensions row.gives)
    && (goes_on row.flow || is_nothing row.gives)
    && (not (is_switch row.form) || is_int row.takes)

abbrev pub flow_agrees : OpRow → Bool
flow_agrees row =
    same (has_target row.form) (goes_to_target row.flow) && same (is_switch row.form) (goes_by_key row.flow)

-- the rows of float opcodes tell no operands, and `wide` goes before none of them
abbrev pub float_agrees : OpRow → Bool
float_agrees row =
    are_float row.takes && are_float row.gives && touches_none row.reads row.writes && not row.takes_wide
    && (is_bare row.form || names_local row.form)

abbrev pub agrees : OpRow → Bool
agrees row =
    (row.length == length_of row.form)
    && same (names_constant row.form) (uses_constant row.constant)
    && (is_bare row.form || int_eq row.implied (pos 0))
    && (not row.initialises || names_constant row.form)
    && (if row.is_float then float_agrees row
    else (locals_agree row && stack_agrees row && flow_agrees row
    && same row.takes_wide (names_local row.form || increments row.form)
    && not (are_float row.takes) && not (are_float row.gives)))
