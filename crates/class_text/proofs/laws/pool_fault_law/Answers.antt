use Rattle.class_text.proofs.PoolTells.{pool_meant}
use Rattle.class_text.proofs.laws.pool_fault_law.Goals as goal

pub returns : goal.returns
returns c = pool_meant
