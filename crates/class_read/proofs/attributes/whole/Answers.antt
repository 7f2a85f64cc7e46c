use Rattle.std.proofs.Common.{◌≡◌, sym, ◌∙◌, subst}
use Rattle.const_pool.specs.Faults.{Fails}
use Rattle.const_pool.specs.declared.class_fault.ClassFault.{ClassFault}
use Rattle.class_read.proofs.Contents.{not_all, cut_off}
use Rattle.class_read.proofs.attributes.whole.Goals as goal

pub returns-else-is_empty : goal.returns-else-is_empty
returns-else-is_empty c = λ reading stop gives.
    not_all c.args.at stop c.args.rest.now c.in-Ok.attribute c.in-Ok.left.now reading (rw c.in-Ok.is at gives) (sym c.is_empty.ensures ∙ c.if-is_empty.false)

pub returns-in-Err-CutShort : goal.returns-in-Err-CutShort
returns-in-Err-CutShort c = λ reading stop gives.
    cut_off c.args.at stop c.args.rest.now c.in-Err-CutShort.field-0-0 reading
    (subst (λ (fault : ClassFault). Fails fault reading) (rw c.in-Err-CutShort.is at c.in-Err-CutShort.field-0-is) (rw c.in-Err-CutShort.is at gives))
