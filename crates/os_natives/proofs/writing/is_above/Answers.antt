use Rattle.std.proofs.Common.{sym, ◌∙◌, arith}
use Rattle.os_natives.proofs.Ways.{first_front, front_more, all_fronts}
use Rattle.os_natives.proofs.writing.is_above.Goals as goal

pub loop-at-init : goal.loop-at-init
loop-at-init c = c.in_ok-found.ensures ∙ first_front c.args.path.now c.args.dest.now

pub loop-at-preserved : goal.loop-at-preserved
loop-at-preserved c =
    c.either-found.ensures ∙ front_more c.args.path.now c.args.dest.now c.loop-at.at c.loop-at.found c.in_ok-here.here c.loop-at-test.true c.loop-at.invariant c.in_ok-here.ensures

pub returns : goal.returns
returns c =
    c.loop-at.invariant ∙ all_fronts c.args.path.now c.args.dest.now c.loop-at.at c.requires (omega arith)
