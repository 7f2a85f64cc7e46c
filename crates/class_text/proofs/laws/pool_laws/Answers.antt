use Rattle.class_text.proofs.Pools.{pool_taken, pool_again}
use Rattle.class_text.proofs.laws.pool_laws.Goals as goal

pub returns-clause-taken : goal.returns-clause-taken
returns-clause-taken c = λ end bytes p rest are e. let t = pool_taken end bytes p rest are e in (t.0, t.1.parts)

pub returns-clause-again : goal.returns-clause-again
returns-clause-again c = pool_again
