use Rattle.std.specs.List.Sorted.{IsStrictlySortedBy}
use Rattle.io_traits.proofs.held.Contents.new.Goals as goal

-- no file is in order
pub invariant_of-result : goal.invariant_of-result
unfolding IsStrictlySortedBy
invariant_of-result c = rw c.new.ensures.items tt
