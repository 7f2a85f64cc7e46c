use Rattle.std.proofs.Common.{◌∙◌, refl}
use Rattle.class_write.proofs.Faults.{passed_on}
use Rattle.class_write.proofs.Lists.{refused_count, refused_item, refused_at, counted_fit, one_more, written_both, all_flat, all_shaped, all_fit}
use Rattle.class_write.proofs.AnnotationLemmas.{text_below, misfit_below, shape_below, no_depth}
use Rattle.class_write.proofs.annotations.+element.Goals as goal

pub put_element-returns-then-depth-eq0-clause-fault : goal.put_element-returns-then-depth-eq0-clause-fault
put_element-returns-then-depth-eq0-clause-fault t c = no_depth c.args.pool.now c.args.part c.args.depth c.args.element.now c.if-depth-eq0.true

pub put_element-returns-in_err-put_layer-clause-fault : goal.put_element-returns-in_err-put_layer-clause-fault
put_element-returns-in_err-put_layer-clause-fault t c =
    rw (misfit_below c.args.pool.now c.args.part c.args.depth c.args.element.now c.if-depth-eq0.false) (passed_on _ _ _ c.from_residual.ensures.1 c.in_err-put_layer.ensures.fault)

pub put_element-returns-clause-ok : goal.put_element-returns-clause-ok
put_element-returns-clause-ok t c = rw (text_below c.args.depth c.args.element.now c.if-depth-eq0.false) c.in_ok-put_layer.ensures.ok

pub put_element-returns-clause-shaped : goal.put_element-returns-clause-shaped
put_element-returns-clause-shaped t c = shape_below c.args.pool.now c.args.depth c.args.element.now c.if-depth-eq0.false c.in_ok-put_layer.ensures.shaped

pub put_element-returns-clause-none : goal.put_element-returns-clause-none
put_element-returns-clause-none t c = misfit_below c.args.pool.now c.args.part c.args.depth c.args.element.now c.if-depth-eq0.false ∙ c.in_ok-put_layer.ensures.none

pub put_pairs-returns-in_err-put_count-clause-fault : goal.put_pairs-returns-in_err-put_count-clause-fault
put_pairs-returns-in_err-put_count-clause-fault t c = passed_on _ _ _ c.from_residual.ensures.1 (refused_count _ _ _ _ c.in_err-put_count.ensures.fault)

pub put_pairs-returns-in_err-put_pair-clause-fault : goal.put_pairs-returns-in_err-put_pair-clause-fault
put_pairs-returns-in_err-put_pair-clause-fault t c =
    passed_on _ _ _ c.from_residual-in_err-put_pair.ensures.1
    (refused_item _ _ _ _ c.in_ok-put_count.ensures.few (refused_at _ _ c.loop-i.invariant c.loop-i-test.true c.index-pairs-i.is c.in_err-put_pair.ensures.fault))

pub put_pairs-loop-i-preserved : goal.put_pairs-loop-i-preserved
put_pairs-loop-i-preserved t c =
    one_more _ c.loop-i.invariant c.loop-i-test.true c.index-pairs-i.is c.in_ok-put_pair.ensures.ok c.in_ok-put_pair.ensures.shaped c.in_ok-put_pair.ensures.none

pub put_pairs-returns : goal.put_pairs-returns
put_pairs-returns t c = record {
  ok = written_both _ _ _ _ _ _ c.in_ok-put_count.ensures.ok (all_flat c.loop-i.invariant c.loop-i-test.false) refl;
  shaped = (c.in_ok-put_count.ensures.few, all_shaped c.loop-i.invariant c.loop-i-test.false);
  none = counted_fit _ _ _ c.in_ok-put_count.ensures.few (all_fit c.loop-i.invariant c.loop-i-test.false);
  fault = tt;
}

pub put_values-returns-in_err-put_count-clause-fault : goal.put_values-returns-in_err-put_count-clause-fault
put_values-returns-in_err-put_count-clause-fault t c = passed_on _ _ _ c.from_residual.ensures.1 (refused_count _ _ _ _ c.in_err-put_count.ensures.fault)

pub put_values-returns-in_err-put_element-clause-fault : goal.put_values-returns-in_err-put_element-clause-fault
put_values-returns-in_err-put_element-clause-fault t c =
    passed_on _ _ _ c.from_residual-in_err-put_element.ensures.1
    (refused_item _ _ _ _ c.in_ok-put_count.ensures.few (refused_at _ _ c.loop-i.invariant c.loop-i-test.true c.index-values-i.is c.in_err-put_element.ensures.fault))

pub put_values-loop-i-preserved : goal.put_values-loop-i-preserved
put_values-loop-i-preserved t c =
    one_more _ c.loop-i.invariant c.loop-i-test.true c.index-values-i.is c.in_ok-put_element.ensures.ok c.in_ok-put_element.ensures.shaped c.in_ok-put_element.ensures.none

pub put_values-returns : goal.put_values-returns
put_values-returns t c = record {
  ok = written_both _ _ _ _ _ _ c.in_ok-put_count.ensures.ok (all_flat c.loop-i.invariant c.loop-i-test.false) refl;
  shaped = (c.in_ok-put_count.ensures.few, all_shaped c.loop-i.invariant c.loop-i-test.false);
  none = counted_fit _ _ _ c.in_ok-put_count.ensures.few (all_fit c.loop-i.invariant c.loop-i-test.false);
  fault = tt;
}
