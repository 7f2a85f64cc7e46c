use Rattle.class_model.specs.Constants.{text_at}
use Rattle.const_pool.proofs.Forms.{plain_class}
use Rattle.const_pool.proofs.text_forms.TextTable.is_class_name.Goals as goal

pub returns : goal.returns
returns c = rw c.forms.ensures (plain_class (text_at c.args.pool.now c.args.number))
