use Rattle.class_write.proofs.Lists.{SoFar}
use Rattle.class_write.proofs.item_lists.write_many.Given as goal

abbrev pub invariant-loop-i : goal.invariant-loop-i
invariant-loop-i g l =
    SoFar (g.W.WriteItem.text l.writer) (g.W.WriteItem.is_shaped l.writer) (g.W.WriteItem.misfit l.writer) l.items l.i l.initial.out.items l.out.items
