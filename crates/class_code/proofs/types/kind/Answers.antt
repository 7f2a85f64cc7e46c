use Rattle.std.proofs.Common.{sym}
use Rattle.class_code.proofs.DescriptorLemmas.{array-kind}
use Rattle.class_code.proofs.types.kind.Goals as goal

pub returns-then-form-gt0 : goal.returns-then-form-gt0
returns-then-form-gt0 c = sym (array-kind c.args.form.dimensions _ c.if-form-gt0.true)
