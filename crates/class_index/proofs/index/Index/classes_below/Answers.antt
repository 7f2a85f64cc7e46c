use Rattle.std.proofs.Common.{◌++◌, length, sym, ◌∙◌, ap}
use Rattle.class_index.specs.Hierarchy.{id_of}
use Rattle.class_index.specs.Below.{if_below}
use Rattle.class_index.proofs.FactLemmas.{below_more, below_none}
use Rattle.class_index.proofs.index.Index.classes_below.Goals as goal

pub loop-at-init : goal.loop-at-init
loop-at-init c = c.new-found.ensures ∙ sym (below_none c.args.self.now c.args.high)

pub loop-at-preserved : goal.loop-at-preserved
loop-at-preserved c =
    c.in_ok-add_if_below.ensures
    ∙ ap (λ xs. xs ++ if_below c.args.self.now c.args.high (id_of (length c.args.self.now) c.loop-at.at)) c.loop-at.invariant
    ∙ sym (below_more c.args.self.now c.args.high c.loop-at.at)
