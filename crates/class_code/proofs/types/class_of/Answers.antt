use Rattle.std.proofs.Common.{sym}
use Rattle.class_code.proofs.DescriptorLemmas.{array-object_name}
use Rattle.class_code.proofs.types.class_of.Goals as goal

pub returns-then-form-gt0 : goal.returns-then-form-gt0
returns-then-form-gt0 c = sym (array-object_name c.args.form.dimensions _ c.if-form-gt0.true)
