use Rattle.class_verify.proofs.Monotone.{each_is_monotone}
use Rattle.class_verify.proofs.Ordering.{fits_through_each}
use Rattle.class_verify.proofs.Safe.{shape_fits_itself}
use Rattle.class_verify.proofs.laws.shapes_that_fit_leave_so.Goals as goal

pub returns-clause-itself : goal.returns-clause-itself
returns-clause-itself c = shape_fits_itself

pub returns-clause-through : goal.returns-clause-through
returns-clause-through c = fits_through_each

pub returns-clause-left : goal.returns-clause-left
returns-clause-left c = each_is_monotone
