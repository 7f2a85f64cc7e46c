use Rattle.class_verify.proofs.Lefts.{each_is_placed, each_leaves_by_parts, each_part_is_left, each_exchanges, each_moves}
use Rattle.class_verify.proofs.laws.instructions_leave_by_parts.Goals as goal

pub returns-clause-placed : goal.returns-clause-placed
returns-clause-placed c = each_is_placed

pub returns-clause-parts : goal.returns-clause-parts
returns-clause-parts c = each_leaves_by_parts

pub returns-clause-whole : goal.returns-clause-whole
returns-clause-whole c = each_part_is_left

pub returns-clause-exchanged : goal.returns-clause-exchanged
returns-clause-exchanged c = each_exchanges

pub returns-clause-moved : goal.returns-clause-moved
returns-clause-moved c = each_moves
