use Rattle.std.proofs.Common.{arith}
use Rattle.class_text.specs.Elements.{pair_by, element_at}
use Rattle.class_read.proofs.Lists.{next, refused, done}
use Rattle.class_read.proofs.Depths.{gives_as, deeper}
use Rattle.class_read.proofs.annotations.+element.Goals as goal

pub elements_in-returns-in-Err : goal.elements_in-returns-in-Err
elements_in-returns-in-Err n c =
    refused (λ before. element_at c.args.at c.args.pool.now c.args.depth) c.loop-i.items c.args.count c.loop-i.i c.args.end c.loop-i.rest.now c.in-Err.fault _ (omega arith) c.in-Err.ensures c.loop-i.invariant

pub elements_in-loop-i-preserved : goal.elements_in-loop-i-preserved
elements_in-loop-i-preserved n c =
    rw c.in_ok-push-in-Ok.ensures.ok
    (next (λ before. element_at c.args.at c.args.pool.now c.args.depth) c.loop-i.items c.args.count c.loop-i.i c.args.end c.loop-i.rest.now c.in-Ok.item c.in-Ok.more.now _ (omega arith) c.in-Ok.ensures c.loop-i.invariant)

pub elements_in-returns : goal.elements_in-returns
elements_in-returns n c =
    done (λ before. element_at c.args.at c.args.pool.now c.args.depth) c.loop-i.items c.args.count c.loop-i.i c.args.end c.loop-i.rest.now _ (omega arith) c.loop-i.invariant

pub pairs_in-returns-in-Err : goal.pairs_in-returns-in-Err
pairs_in-returns-in-Err n c =
    refused (λ before. pair_by (element_at c.args.at c.args.pool.now c.args.depth) c.args.pool.now) c.loop-i.items c.args.count c.loop-i.i c.args.end c.loop-i.rest.now c.in-Err.fault _ (omega arith) c.in-Err.ensures c.loop-i.invariant

pub pairs_in-loop-i-preserved : goal.pairs_in-loop-i-preserved
pairs_in-loop-i-preserved n c =
    rw c.in_ok-push-in-Ok.ensures.ok
    (next (λ before. pair_by (element_at c.args.at c.args.pool.now c.args.depth) c.args.pool.now) c.loop-i.items c.args.count c.loop-i.i c.args.end c.loop-i.rest.now c.in-Ok.item c.in-Ok.more.now _ (omega arith) c.in-Ok.ensures c.loop-i.invariant)

pub pairs_in-returns : goal.pairs_in-returns
pairs_in-returns n c =
    done (λ before. pair_by (element_at c.args.at c.args.pool.now c.args.depth) c.args.pool.now) c.loop-i.items c.args.count c.loop-i.i c.args.end c.loop-i.rest.now _ (omega arith) c.loop-i.invariant

pub element_in-returns : goal.element_in-returns
element_in-returns n c =
    gives_as _ c.tagged_in.result _ _ (deeper c.args.at c.args.pool.now c.args.depth c.args.end c.args.bytes.now c.in_ok-tag.tag c.in_ok-tag.rest.now c.offset_of.result c.if-depth-eq0.false c.in_ok-tag.ensures c.offset_of.ensures) c.tagged_in.ensures
