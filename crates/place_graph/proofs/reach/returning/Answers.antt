use Rattle.std.proofs.Common.{◌≡◌, false, ◌∙◌, arith}
use Rattle.std.proofs.lemmas.List.{get_or_default}
use Rattle.place_graph.specs.Searches.{is_marked}
use Rattle.place_graph.proofs.Searched.{returning_more, searched_more}
use Rattle.place_graph.proofs.reach.returning.Goals as goal

pub loop-place-preserved : goal.loop-place-preserved
loop-place-preserved c =
    let marks = c.in_ok-marks.marks.items in
    let read : c.index.result.now ≡ is_marked marks c.loop-place.place =
    c.index.ensures ∙ get_or_default marks c.loop-place.place c.index.result.now false (omega (arith, c.in_ok-marks.ensures.all)) in (
      rw c.in_ok-push.ensures.items (returning_more c.args.graph.now c.loop-place.place c.loop-place.returning.items marks c.index.result.now c.in_ok-marks.ensures read c.loop-place.invariant.0),
      searched_more c.args.graph.now c.loop-place.place marks c.in_ok-marks.ensures c.loop-place.invariant.1,
    )
