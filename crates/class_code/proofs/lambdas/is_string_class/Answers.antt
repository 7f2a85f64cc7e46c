use Rattle.std.proofs.Common.{sym}
use Rattle.class_code.proofs.DescriptorLemmas.{array-is_string}
use Rattle.class_code.proofs.lambdas.is_string_class.Goals as goal

pub returns-then-form-gt0 : goal.returns-then-form-gt0
returns-then-form-gt0 c = sym (array-is_string c.args.form.dimensions _ c.if-form-gt0.true)
