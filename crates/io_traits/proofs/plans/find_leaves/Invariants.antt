use Rattle.std.proofs.Common.{◌≡◌, drop, eqb}
use Rattle.std.specs.Map.{lookup}
use Rattle.io_traits.proofs.plans.find_leaves.Given as goal

-- what stands beside the number is yet to come
abbrev pub invariant-loop-planned : goal.invariant-loop-planned
invariant-loop-planned l = lookup (λ n. eqb n l.number) l.failing ≡ lookup (λ n. eqb n l.number) (drop l.planned-index l.failing)
