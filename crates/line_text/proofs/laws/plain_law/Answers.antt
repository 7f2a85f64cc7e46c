use Rattle.line_text.proofs.Plain.{name_plain, path_plain}
use Rattle.line_text.proofs.laws.plain_law.Goals as goal

pub returns : goal.returns
returns c = record { name = name_plain; path = path_plain }
