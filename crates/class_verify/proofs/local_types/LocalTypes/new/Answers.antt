use Rattle.std.proofs.Common.{◌∙◌, refl}
use Rattle.class_verify.proofs.Tracking.{told_none}
use Rattle.class_verify.proofs.local_types.LocalTypes.new.Goals as goal

pub returns-clause-told : goal.returns-clause-told
returns-clause-told c = told_none _ c.new.ensures.items (c.of.ensures ∙ c.new-2.ensures.items) refl
