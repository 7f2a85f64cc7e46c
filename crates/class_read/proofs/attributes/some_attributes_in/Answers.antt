use Rattle.std.proofs.Common.{arith}
use Rattle.class_text.specs.Attributes.{attribute_at}
use Rattle.class_read.specs.Stands.{stand_of}
use Rattle.class_read.proofs.Lists.{started, next, refused, done}
use Rattle.class_read.proofs.attributes.some_attributes_in.Goals as goal

pub loop-i-init : goal.loop-i-init
loop-i-init c =
    (c.in_ok-found.ensures.keeps c.args.pool.now (stand_of c.args.stand), started (attribute_at c.args.pool.now (stand_of c.args.stand) c.args.barred) c.in_ok-found.found.list c.args.count c.args.end c.args.bytes.now c.in_ok-found.ensures.none)

pub returns-in-Err : goal.returns-in-Err
returns-in-Err c =
    refused (attribute_at c.args.pool.now (stand_of c.args.stand) c.args.barred) c.loop-i.found.list c.args.count c.loop-i.i c.args.end c.loop-i.rest.now c.in-Err.fault _ (omega arith) c.in-Err.ensures c.loop-i.invariant.1

pub loop-i-preserved : goal.loop-i-preserved
loop-i-preserved c = (
  c.in_ok-push-in-Ok.ensures.keeps,
  rw c.in_ok-push-in-Ok.ensures.list
      (next (attribute_at c.args.pool.now (stand_of c.args.stand) c.args.barred) c.loop-i.found.list c.args.count c.loop-i.i c.args.end c.loop-i.rest.now c.in-Ok.item c.in-Ok.more.now _ (omega arith) c.in-Ok.ensures c.loop-i.invariant.1),
)

pub returns : goal.returns
returns c =
    done (attribute_at c.args.pool.now (stand_of c.args.stand) c.args.barred) c.loop-i.found.list c.args.count c.loop-i.i c.args.end c.loop-i.rest.now _ (omega arith) c.loop-i.invariant.1
