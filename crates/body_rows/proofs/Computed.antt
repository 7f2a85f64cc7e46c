-- The rows by computation.
use Rattle.std.proofs.Common.{refl}
use Rattle.std.specs.Fmt.{digits}
use Rattle.class_model.specs.ClassNames.{is_class_name, is_unqualified}
use Rattle.class_model.specs.Descriptors.{method_type, field_types_at, field_type, field_type_at, component_at}
use Rattle.class_model.specs.Units.{units_at, unit_at}
use Rattle.jvm_tables.specs.Natives.{natives}
use Rattle.jvm_tables.specs.Opcodes.{row_of}
use Rattle.line_text.specs.Lines.{units_of_name}
use Rattle.jvm_heap.specs.Heaps.{allocated, replaced, constant_text, slot_at, with_slot}
use Rattle.jvm_heap.specs.Operands.{pushed, taken}
use Rattle.native_model.specs.Table.{cases, native_answer}
use Rattle.jvm_model.specs.Actions.{action_of}
use Rattle.jvm_model.specs.Arithmetic.{effect_of, plain}
use Rattle.jvm_model.specs.Arrays.{array_for}
use Rattle.jvm_model.specs.Bodies.{body, value_told}
use Rattle.jvm_model.specs.Calls.{virtual_callee, special_callee, static_target}
use Rattle.jvm_model.specs.Driving.{performed, call_begun, delivered}
use Rattle.jvm_model.specs.Frames.{started, raised, unwound}
use Rattle.jvm_model.specs.Initialising.{initialised_further, initialised_by}
use Rattle.jvm_model.specs.Lambdas.{lambda_arguments, converted}
use Rattle.jvm_model.specs.Runs.{run}
use Rattle.jvm_model.specs.Steps.{step_of, line_at}
use Rattle.jvm_model.specs.Working.{loaded, stored, with_local, incremented, tested, compared, rearranged}
use Rattle.body_rows.specs.Numbers.{SumWraps, LeastByMinusOne, DivisionByZero, RemainderSign, ShiftByOneMore, Endless, JustEnough, TooFew}
use Rattle.body_rows.specs.Objects.{ArrayLength, NegativeSize, Caught, LengthOfText}
use Rattle.body_rows.specs.Calls.{SumOfThree, InitialisedOnce, LambdaGives}

pub record NumbersHold : Type 0 where
  pub sum_wraps : SumWraps
  pub least_by_minus_one : LeastByMinusOne
  pub division_by_zero : DivisionByZero
  pub remainder_sign : RemainderSign
  pub shift_by_one_more : ShiftByOneMore
  pub endless : Endless
  pub just_enough : JustEnough
  pub too_few : TooFew

pub numbers_hold : NumbersHold
unfolding digits is_class_name is_unqualified method_type field_types_at field_type field_type_at component_at units_at unit_at natives row_of units_of_name allocated replaced constant_text slot_at with_slot pushed taken cases native_answer action_of effect_of plain array_for body value_told virtual_callee special_callee static_target performed call_begun delivered started raised unwound initialised_further initialised_by lambda_arguments converted run step_of line_at loaded stored with_local incremented tested compared rearranged
numbers_hold = record { sum_wraps = refl; least_by_minus_one = refl; division_by_zero = refl; remainder_sign = refl; shift_by_one_more = refl; endless = refl; just_enough = refl; too_few = refl }

pub record ObjectsHold : Type 0 where
  pub array_length : ArrayLength
  pub negative_size : NegativeSize
  pub caught : Caught
  pub length_of_text : LengthOfText

pub objects_hold : ObjectsHold
unfolding digits is_class_name is_unqualified method_type field_types_at field_type field_type_at component_at units_at unit_at natives row_of units_of_name allocated replaced constant_text slot_at with_slot pushed taken cases native_answer action_of effect_of plain array_for body value_told virtual_callee special_callee static_target performed call_begun delivered started raised unwound initialised_further initialised_by lambda_arguments converted run step_of line_at loaded stored with_local incremented tested compared rearranged
objects_hold = record { array_length = refl; negative_size = refl; caught = refl; length_of_text = refl }

pub record CallsHold : Type 0 where
  pub sum_of_three : SumOfThree
  pub initialised_once : InitialisedOnce
  pub lambda_gives : LambdaGives

pub calls_hold : CallsHold
unfolding digits is_class_name is_unqualified method_type field_types_at field_type field_type_at component_at units_at unit_at natives row_of units_of_name allocated replaced constant_text slot_at with_slot pushed taken cases native_answer action_of effect_of plain array_for body value_told virtual_callee special_callee static_target performed call_begun delivered started raised unwound initialised_further initialised_by lambda_arguments converted run step_of line_at loaded stored with_local incremented tested compared rearranged
calls_hold = record { sum_of_three = refl; initialised_once = refl; lambda_gives = refl }
