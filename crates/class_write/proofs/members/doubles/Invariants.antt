use Rattle.std.proofs.Common.{◌≡◌, ◌++◌, take, drop}
use Rattle.const_pool.specs.SeenMembers.{HasSeen}
use Rattle.class_write.specs.Misfits as misfits
use Rattle.class_write.specs.Order.{told_from}
use Rattle.class_write.proofs.members.doubles.Given as goal

abbrev pub invariant-loop-i : goal.invariant-loop-i
invariant-loop-i l =
    (l.doubles ++ told_from (misfits.is_double l.pool l.members) l.i (drop l.i l.members) ≡ misfits.doubles l.pool l.members) × HasSeen l.pool (take l.i l.members) l.seen
