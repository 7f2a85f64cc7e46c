use Rattle.std.proofs.Common.{◌≡◌, [], ◌∙◌, ap, arith}
use Rattle.std.proofs.lemmas.List.{get_or_read}
use Rattle.place_graph.specs.Graphs.{edges_of}
use Rattle.class_index.specs.Selection.{the_only}
use Rattle.class_index.proofs.LookupLemmas.{overriding_nearest, overriding_above}
use Rattle.class_index.proofs.select.overriding.Goals as goal

pub returns-in-Some : goal.returns-in-Some
returns-in-Some c =
    c.unless_abstract.ensures
    ∙ overriding_nearest c.args.own c.args.all.now c.args.supers.now (edges_of c.args.above.now) c.args.name.now c.args.descriptor.now c.args.place c.in-Some.found c.in-Some.ensures

pub returns-in-None : goal.returns-in-None
returns-in-None c =
    let row : c.as_slice.result.now ≡ edges_of c.args.above.now c.args.place =
    c.as_slice.ensures ∙ get_or_read c.args.above.now c.args.place c.index-above-place.result (omega (arith, c.requires.place, c.requires.rows)) c.index-above-place.is [] in
    c.the_only.ensures ∙ ap (the_only c.args.own) c.most_specific.ensures
    ∙ overriding_above c.args.own c.args.all.now c.args.supers.now (edges_of c.args.above.now) c.args.name.now c.args.descriptor.now c.args.place c.as_slice.result.now c.in-None.ensures row
