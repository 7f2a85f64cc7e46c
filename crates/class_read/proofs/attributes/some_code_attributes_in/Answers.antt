use Rattle.std.proofs.Common.{arith}
use Rattle.class_model.specs.Attributes.{in_code}
use Rattle.class_text.specs.Attributes.{code_attribute_at}
use Rattle.class_read.proofs.Lists.{started, next, refused, done}
use Rattle.class_read.proofs.attributes.some_code_attributes_in.Goals as goal

pub loop-i-init : goal.loop-i-init
loop-i-init c =
    (c.in_ok-found.ensures.keeps c.args.pool.now in_code, started (code_attribute_at c.args.pool.now) c.in_ok-found.found.list c.args.count c.args.end c.args.bytes.now c.in_ok-found.ensures.none)

pub returns-in-Err : goal.returns-in-Err
returns-in-Err c =
    refused (code_attribute_at c.args.pool.now) c.loop-i.found.list c.args.count c.loop-i.i c.args.end c.loop-i.rest.now c.in-Err.fault _ (omega arith) c.in-Err.ensures c.loop-i.invariant.1

pub loop-i-preserved : goal.loop-i-preserved
loop-i-preserved c = (
  c.in_ok-push-in-Ok.ensures.keeps,
  rw c.in_ok-push-in-Ok.ensures.list
      (next (code_attribute_at c.args.pool.now) c.loop-i.found.list c.args.count c.loop-i.i c.args.end c.loop-i.rest.now c.in-Ok.item c.in-Ok.more.now _ (omega arith) c.in-Ok.ensures c.loop-i.invariant.1),
)

pub returns : goal.returns
returns c =
    done (code_attribute_at c.args.pool.now) c.loop-i.found.list c.args.count c.loop-i.i c.args.end c.loop-i.rest.now _ (omega arith) c.loop-i.invariant.1
