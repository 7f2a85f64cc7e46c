use Rattle.std.proofs.Common.{◌≡◌, take}
use Rattle.mill_top.specs.Replies.{in_name_order}
use Rattle.mill_top.proofs.printing.in_name_order.Given as goal

abbrev pub invariant-loop-taken : goal.invariant-loop-taken
invariant-loop-taken l = l.ordered.entries ≡ in_name_order (take l.taken-index l.taken-items)
