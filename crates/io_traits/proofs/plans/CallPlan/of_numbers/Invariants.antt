use Rattle.std.proofs.Common.{◌≡◌, take, map}
use Rattle.io_traits.specs.declared.plans.Leaves.TheVariants.{Old}
use Rattle.io_traits.proofs.plans.CallPlan.of_numbers.Given as goal

abbrev pub invariant-loop-number : goal.invariant-loop-number
invariant-loop-number l = l.failing.items ≡ map (λ n. (n, Old)) (take l.number-index l.numbers)
