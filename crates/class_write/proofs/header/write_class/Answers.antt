use Rattle.std.proofs.Common.{◌∙◌}
use Rattle.class_write.proofs.Complete.{class_none}
use Rattle.class_write.proofs.Faults.{passed_on, only_memory, unless_memory}
use Rattle.class_write.proofs.ClassLemmas.{refused_head, refused_lists, whole_shape, whole_text}
use Rattle.class_write.proofs.header.write_class.Goals as goal

pub returns-in_err-put_head-clause-only : goal.returns-in_err-put_head-clause-only
returns-in_err-put_head-clause-only c = λ shaped.
    unless_memory _ _ c.from_residual.ensures.1 (only_memory _ _ (refused_head c.args.class.now _ c.in_err-put_head.ensures.fault) (class_none c.args.class.now shaped))

pub returns-in_err-put_head-clause-fault : goal.returns-in_err-put_head-clause-fault
returns-in_err-put_head-clause-fault c = passed_on _ _ _ c.from_residual.ensures.1 (refused_head c.args.class.now _ c.in_err-put_head.ensures.fault)

pub returns-in_err-put_lists-clause-only : goal.returns-in_err-put_lists-clause-only
returns-in_err-put_lists-clause-only c = λ shaped.
    unless_memory _ _ c.from_residual-in_err-put_lists.ensures.1
    (only_memory _ _ (refused_lists c.args.class.now _ c.in_ok-put_head.ensures.none c.in_err-put_lists.ensures.fault) (class_none c.args.class.now shaped))

pub returns-in_err-put_lists-clause-fault : goal.returns-in_err-put_lists-clause-fault
returns-in_err-put_lists-clause-fault c =
    passed_on _ _ _ c.from_residual-in_err-put_lists.ensures.1 (refused_lists c.args.class.now _ c.in_ok-put_head.ensures.none c.in_err-put_lists.ensures.fault)

pub returns-clause-written : goal.returns-clause-written
returns-clause-written c = (
  whole_shape c.args.class.now c.in_ok-put_head.ensures.shaped c.in_ok-put_lists.ensures.interfaces c.in_ok-put_lists.ensures.fields
      c.in_ok-put_lists.ensures.methods c.in_ok-put_lists.ensures.attributes,
  c.from_vec.ensures ∙ whole_text c.args.class.now _ _ _ c.new-out.ensures.items c.in_ok-put_head.ensures.ok c.in_ok-put_lists.ensures.ok,
)
