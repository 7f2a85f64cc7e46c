use Rattle.std.proofs.Common.{rules}
use Rattle.std.proofs.lemmas.Fn.{always_returns_same}
use Rattle.std.specs.Ordering.{is_lt}
use Rattle.io_traits.specs.Files.{File}
use Rattle.tree_value.specs.Trees.{path_cmp}
use Rattle.io_traits.proofs.Places.{in_order_from_adjacent}
use Rattle.io_traits.proofs.held.is_sorted.Goals as goal

-- the closure says whether the first name is less
pub returns : goal.returns
returns c = in_order_from_adjacent (λ (file : File). file.0) c.args.files.now _ (c.is_sorted_by.ensures.cases (λ a b. is_lt (path_cmp a.0 b.0)) (always_returns_same _ _ _ (λ a r g called. search rules)))
