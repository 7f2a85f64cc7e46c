use Rattle.std.proofs.Common.{sym, ◌∙◌}
use Rattle.const_pool.proofs.Forms.{static_too}
use Rattle.const_pool.proofs.text_forms.is_method_type.Goals as goal

pub returns-then-is_instance_type : goal.returns-then-is_instance_type
returns-then-is_instance_type c = sym (static_too c.args.text.now (sym c.requires ∙ c.if-is_instance_type.true))
