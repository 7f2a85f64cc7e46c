use Rattle.std.proofs.Common.{◌≡◌, drop}
use Rattle.class_index.specs.Members.{member_from}
use Rattle.class_index.proofs.members.member_in.Given as goal

abbrev pub invariant-loop-at : goal.invariant-loop-at
invariant-loop-at l = member_from l.at l.name l.descriptor (drop l.at l.members) ≡ member_from 0 l.name l.descriptor l.members
