use Rattle.class_text.proofs.Places.{pool_before}
use Rattle.class_text.proofs.laws.place_law.Goals as goal

pub returns : goal.returns
returns c = pool_before
