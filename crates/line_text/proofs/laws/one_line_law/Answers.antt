use Rattle.line_text.proofs.OneLine.{units_one_line, name_one_line, path_one_line}
use Rattle.line_text.proofs.laws.one_line_law.Goals as goal

pub returns : goal.returns
returns c = record { units = units_one_line; name = name_one_line; path = path_one_line }
