use Rattle.class_model.specs.Constants.{text_at}
use Rattle.const_pool.proofs.Forms.{field_name}
use Rattle.const_pool.proofs.text_forms.TextTable.is_field_name.Goals as goal

pub returns : goal.returns
returns c = rw c.forms.ensures (field_name (text_at c.args.pool.now c.args.number))
