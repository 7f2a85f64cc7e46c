use Rattle.std.proofs.Common.{rules, ◌≡◌, subst}
use Rattle.task_graph.specs.Rankings.{EachIsRanked}
use Rattle.task_graph.proofs.Ranking.{none_returns}
use Rattle.task_graph.proofs.returning.least_returning.Goals as goal

pub returns-then-each_is_ranked : goal.returns-then-each_is_ranked
returns-then-each_is_ranked c =
    let ranks = c.in_ok-ranks.ranks.items in
    let same : c.deref.result.now ≡ ranks = c.deref.ensures.value in
    let shown : EachIsRanked c.deref.result.now = search rules in
    none_returns c.args.graph.now ranks c.in_ok-ranks.ensures.0 c.requires.graph c.in_ok-ranks.ensures.1 (subst EachIsRanked same shown)
