use Rattle.std.proofs.Common.{arith, sym, ◌∙◌}
use Rattle.mill_top.proofs.SendingLaws.{got_more}
use Rattle.mill_top.proofs.sending.send.Goals as goal

pub loop-at-preserved : goal.loop-at-preserved
loop-at-preserved g c = record {
  within = omega (arith, c.in_ok-at.ensures.within, c.split_at.ensures.back_len);
  got = got_more _ _ _ c.args.bytes.now c.loop-at.at c.in_ok-at.field-0 c.loop-at.invariant.got (rw (sym c.split_at.ensures.back) c.in_ok-at.ensures.ok);
  later = omega (arith, c.in_ok-at.ensures.cause.later, c.loop-at.invariant.later);
  kept = c.in_ok-at.ensures.kept ∙ c.loop-at.invariant.kept;
  plan = c.in_ok-at.ensures.plan ∙ c.loop-at.invariant.plan;
}
