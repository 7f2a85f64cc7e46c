use Rattle.class_model.specs.Annotations.{IsPairBy, IsElement}
use Rattle.class_model.specs.Spelling as spelling
use Rattle.class_write.specs.Misfits as misfits
use Rattle.class_write.proofs.Lists.{SoFar}
use Rattle.class_write.proofs.annotations.+element.Given as goal

abbrev pub invariant-put_pairs-loop-i : goal.invariant-put_pairs-loop-i
invariant-put_pairs-loop-i l =
    SoFar (spelling.pair_by (spelling.element l.depth)) (IsPairBy (IsElement l.pool l.depth) l.pool) (λ n p. misfits.pair_by (misfits.element l.pool l.part l.depth) l.pool l.part p)
    l.pairs l.i l.initial.out.items l.out.items

abbrev pub invariant-put_values-loop-i : goal.invariant-put_values-loop-i
invariant-put_values-loop-i l =
    SoFar (spelling.element l.depth) (IsElement l.pool l.depth) (λ n e. misfits.element l.pool l.part l.depth e) l.values l.i l.initial.out.items l.out.items
