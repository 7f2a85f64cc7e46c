use Rattle.jvm_tables.proofs.Decoded.{its_row}
use Rattle.jvm_tables.proofs.laws.instructions_have_rows.Goals as goal

pub returns : goal.returns
returns c = its_row
