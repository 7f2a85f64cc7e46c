use Rattle.std.proofs.Common.{rules}
use Rattle.std.proofs.lemmas.Fn.{always_returns_same}
use Rattle.std.specs.Ordering.{is_lt}
use Rattle.tree_value.specs.Trees.{path_cmp}
use Rattle.io_traits.proofs.Places.{names_in_order}
use Rattle.io_traits.proofs.held.is_in_order.Goals as goal

-- the closure says whether the first name is less
pub returns : goal.returns
returns c = names_in_order c.args.names.now _ (c.is_sorted_by.ensures.cases (λ a b. is_lt (path_cmp a b)) (always_returns_same _ _ _ (λ a r g called. search rules)))
