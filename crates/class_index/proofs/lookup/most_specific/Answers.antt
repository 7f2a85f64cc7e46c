use Rattle.std.proofs.Common.{◌∙◌, ap, arith}
use Rattle.place_graph.specs.Graphs.{edges_of}
use Rattle.class_index.specs.Lookups.{in_interface, specific}
use Rattle.class_index.specs.Added.{added}
use Rattle.class_index.proofs.LookupLemmas.{choice_more}
use Rattle.class_index.proofs.lookup.most_specific.Goals as goal

pub loop-place-preserved : goal.loop-place-preserved
loop-place-preserved c =
    c.added-choice.ensures ∙ ap (added c.loop-place.choice) c.specific.ensures
    ∙ choice_more (specific (in_interface c.args.own c.args.all.now c.args.name.now c.args.descriptor.now) (edges_of c.args.above.now) c.args.others.now) c.args.others.now c.loop-place.place-index
    c.loop-place.choice (omega arith) c.loop-place.invariant
