use Rattle.class_verify.proofs.Formed.{each_body_is_formed, each_shape_is_formed, each_stays_formed, each_handler_has_room}
use Rattle.class_verify.proofs.laws.shapes_are_formed.Goals as goal

pub returns-clause-bodies : goal.returns-clause-bodies
returns-clause-bodies c = each_body_is_formed

pub returns-clause-shapes : goal.returns-clause-shapes
returns-clause-shapes c = each_shape_is_formed

pub returns-clause-left : goal.returns-clause-left
returns-clause-left c = each_stays_formed

pub returns-clause-handlers : goal.returns-clause-handlers
returns-clause-handlers c = each_handler_has_room
