use Rattle.class_index.proofs.Subtypes.{joined}
use Rattle.class_index.proofs.laws.subtyping_is_transitive.Goals as goal

pub returns : goal.returns
returns c = joined
