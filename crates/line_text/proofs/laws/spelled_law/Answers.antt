use Rattle.std.proofs.Common.{ap}
use Rattle.line_text.specs.Lines.{line_of_units}
use Rattle.line_text.proofs.Spelled.{units_of_name-spelled}
use Rattle.line_text.proofs.Characters.{line_of_path-encoded}
use Rattle.line_text.proofs.laws.spelled_law.Goals as goal

pub returns : goal.returns
returns c = record { name = (λ units name s. ap line_of_units (units_of_name-spelled units name s)); path = line_of_path-encoded }
