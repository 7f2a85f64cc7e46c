use Rattle.std.proofs.Common.{arith}
use Rattle.class_read.proofs.Lists.{next, refused, done}
use Rattle.class_read.proofs.item_lists.many_in.Goals as goal

pub returns-in-Err : goal.returns-in-Err
returns-in-Err g c =
    refused (λ before. g.R.ReadItem.one c.args.reader.now) c.loop-i.items c.args.count c.loop-i.i c.args.end c.loop-i.rest.now c.in-Err.fault _ (omega arith) c.in-Err.ensures c.loop-i.invariant

pub loop-i-preserved : goal.loop-i-preserved
loop-i-preserved g c =
    rw c.in_ok-push-in-Ok.ensures.ok
    (next (λ before. g.R.ReadItem.one c.args.reader.now) c.loop-i.items c.args.count c.loop-i.i c.args.end c.loop-i.rest.now c.in-Ok.item c.in-Ok.more.now _ (omega arith) c.in-Ok.ensures c.loop-i.invariant)

pub returns : goal.returns
returns g c =
    done (λ before. g.R.ReadItem.one c.args.reader.now) c.loop-i.items c.args.count c.loop-i.i c.args.end c.loop-i.rest.now _ (omega arith) c.loop-i.invariant
