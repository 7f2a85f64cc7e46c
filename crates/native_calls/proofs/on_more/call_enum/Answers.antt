use Rattle.std.proofs.Common.{arith}
use Rattle.std.proofs.lemmas.Bool.Decides.{nat_tests}
use Rattle.native_calls.proofs.on_more.call_enum.Goals as goal

pub returns-in_default : goal.returns-in_default
returns-in_default g c = absurd (grind (arith, nat_tests))
