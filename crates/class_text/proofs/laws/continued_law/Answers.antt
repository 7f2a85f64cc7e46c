use Rattle.class_text.proofs.Continued.{pool_more, none_begins}
use Rattle.class_text.proofs.laws.continued_law.Goals as goal

pub returns-clause-stays : goal.returns-clause-stays
returns-clause-stays c = pool_more

pub returns-clause-none : goal.returns-clause-none
returns-clause-none c = none_begins
