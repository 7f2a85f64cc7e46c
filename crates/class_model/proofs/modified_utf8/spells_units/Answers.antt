use Rattle.std.proofs.Common.{sym}
use Rattle.class_model.proofs.TextLemmas.{text_behind, text_before, no_text, shorter_behind}
use Rattle.class_model.proofs.modified_utf8.spells_units.Goals as goal

pub loop-rest-smaller : goal.loop-rest-smaller
loop-rest-smaller c = shorter_behind _ _ _ (sym c.in-Some.ensures.value)

pub loop-rest-preserved : goal.loop-rest-preserved
loop-rest-preserved c =
    let at = sym c.in-Some.ensures.value in
    ((λ t. text_behind _ _ _ at (c.loop-rest.invariant.0 t)), (λ t. c.loop-rest.invariant.1 (text_before _ _ _ at t)))

pub returns-in-None : goal.returns-in-None
returns-in-None c =
    ((λ h. cc), (λ t. absurd (no_text _ (sym c.in-None.ensures.value) c.loop-rest-test.ensures (c.loop-rest.invariant.0 t))))
