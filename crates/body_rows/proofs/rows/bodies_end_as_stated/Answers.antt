use Rattle.body_rows.proofs.Computed.{numbers_hold, objects_hold, calls_hold}
use Rattle.body_rows.proofs.rows.bodies_end_as_stated.Goals as goal

pub returns-clause-sum_wraps : goal.returns-clause-sum_wraps
returns-clause-sum_wraps c = numbers_hold.sum_wraps

pub returns-clause-least_by_minus_one : goal.returns-clause-least_by_minus_one
returns-clause-least_by_minus_one c = numbers_hold.least_by_minus_one

pub returns-clause-division_by_zero : goal.returns-clause-division_by_zero
returns-clause-division_by_zero c = numbers_hold.division_by_zero

pub returns-clause-remainder_sign : goal.returns-clause-remainder_sign
returns-clause-remainder_sign c = numbers_hold.remainder_sign

pub returns-clause-shift_by_one_more : goal.returns-clause-shift_by_one_more
returns-clause-shift_by_one_more c = numbers_hold.shift_by_one_more

pub returns-clause-endless : goal.returns-clause-endless
returns-clause-endless c = numbers_hold.endless

pub returns-clause-just_enough : goal.returns-clause-just_enough
returns-clause-just_enough c = numbers_hold.just_enough

pub returns-clause-too_few : goal.returns-clause-too_few
returns-clause-too_few c = numbers_hold.too_few

pub returns-clause-array_length : goal.returns-clause-array_length
returns-clause-array_length c = objects_hold.array_length

pub returns-clause-negative_size : goal.returns-clause-negative_size
returns-clause-negative_size c = objects_hold.negative_size

pub returns-clause-caught : goal.returns-clause-caught
returns-clause-caught c = objects_hold.caught

pub returns-clause-length_of_text : goal.returns-clause-length_of_text
returns-clause-length_of_text c = objects_hold.length_of_text

pub returns-clause-sum_of_three : goal.returns-clause-sum_of_three
returns-clause-sum_of_three c = calls_hold.sum_of_three

pub returns-clause-initialised_once : goal.returns-clause-initialised_once
returns-clause-initialised_once c = calls_hold.initialised_once

pub returns-clause-lambda_gives : goal.returns-clause-lambda_gives
returns-clause-lambda_gives c = calls_hold.lambda_gives
