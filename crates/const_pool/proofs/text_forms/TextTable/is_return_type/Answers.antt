use Rattle.class_model.specs.Constants.{text_at}
use Rattle.const_pool.proofs.Forms.{return_type}
use Rattle.const_pool.proofs.text_forms.TextTable.is_return_type.Goals as goal

pub returns : goal.returns
returns c = rw c.forms.ensures (return_type (text_at c.args.pool.now c.args.number))
