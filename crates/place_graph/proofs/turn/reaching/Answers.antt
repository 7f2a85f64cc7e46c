use Rattle.std.proofs.Common.{List, subst, ℕ}
use Rattle.place_graph.specs.Searches.{IsReached}
use Rattle.place_graph.proofs.Turned.{reaching_by}
use Rattle.place_graph.proofs.turn.reaching.Goals as goal

pub returns : goal.returns
returns c =
    reaching_by c.args.graph.now c.in_ok-rows.rows.items c.args.to c.in_ok-marks.marks.items c.in_ok-rows.ensures
    (subst (λ (g : List (List ℕ)). IsReached g c.args.to c.in_ok-marks.marks.items) c.deref.ensures.value c.in_ok-marks.ensures)
