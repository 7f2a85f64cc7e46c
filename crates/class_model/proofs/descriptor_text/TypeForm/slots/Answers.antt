use Rattle.std.proofs.Common.{sym}
use Rattle.class_model.proofs.Dimensions.{array-slots}
use Rattle.class_model.proofs.descriptor_text.TypeForm.slots.Goals as goal

pub returns-then-self-gt0-clause-value : goal.returns-then-self-gt0-clause-value
returns-then-self-gt0-clause-value c = sym (array-slots c.args.self.dimensions _ c.if-self-gt0.true)
