use Rattle.std.proofs.Common.{refl, sym, ◌∙◌, ap, arith}
use Rattle.class_model.specs.Descriptors.{field_type_at}
use Rattle.class_model.specs.TypeForms.{wrapped}
use Rattle.class_model.proofs.Dimensions.{wrapped-deep, wrapped-more}
use Rattle.class_model.proofs.descriptor_text.field_type_in.Goals as goal

pub loop-more-init : goal.loop-more-init
unfolding wrapped
loop-more-init c = refl

pub returns-then-dimensions : goal.returns-then-dimensions
returns-then-dimensions c =
    sym (c.loop-more.invariant ∙ ap (wrapped c.loop-more.dimensions) c.in-Some.ensures.some ∙ wrapped-deep c.loop-more.dimensions (field_type_at c.in-Some.more.now) (omega arith))

pub loop-more-preserved : goal.loop-more-preserved
loop-more-preserved c =
    c.loop-more.invariant ∙ ap (wrapped c.loop-more.dimensions) c.in-Some.ensures.some ∙ sym (wrapped-more c.loop-more.dimensions (field_type_at c.in-Some.more.now))
