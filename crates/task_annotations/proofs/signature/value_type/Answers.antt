use Rattle.std.proofs.Common.{sym}
use Rattle.task_annotations.proofs.Parameters.{array-value}
use Rattle.task_annotations.proofs.signature.value_type.Goals as goal

pub returns-then-form-gt0 : goal.returns-then-form-gt0
returns-then-form-gt0 c = sym (array-value c.args.form.dimensions _ c.if-form-gt0.true)
