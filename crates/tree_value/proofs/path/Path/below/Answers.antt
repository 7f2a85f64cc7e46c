use Rattle.std.proofs.Common.{sym, subst}
use Rattle.tree_value.specs.Paths.{IsPath}
use Rattle.tree_value.proofs.Below.{IsPath-below}
use Rattle.tree_value.proofs.path.Path.below.Goals as goal

pub invariant_of-result : goal.invariant_of-result
invariant_of-result c =
    subst IsPath (sym c.in_ok-from_slice-in-Some.ensures.items)
    (IsPath-below c.as_slice-2.result.now c.as_slice.result.now c.in-Some.below.now (subst IsPath (sym c.as_slice.ensures.value) c.self.invariant) (sym c.in-Some.ensures))
