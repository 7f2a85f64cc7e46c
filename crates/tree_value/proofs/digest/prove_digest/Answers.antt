use Rattle.std.proofs.Common.{arith}
use Rattle.std.proofs.lemmas.Grind.{common_steps}
use Rattle.tree_value.proofs.digest.prove_digest.Goals as goal

-- src/digest.rt:27:1
pub returns : goal.returns
returns c = record { size = c.requires; within = λ k d below. grind (arith, common_steps, c.type_inv.bytes k) }
