use Rattle.std.proofs.Common.{◌≡◌, take}
use Rattle.tree_value.specs.Trees.{files_below}
use Rattle.tree_value.proofs.tree.Tree.sub.Given as goal

abbrev pub invariant-loop-name : goal.invariant-loop-name
invariant-loop-name l = l.files.items ≡ files_below l.path (take l.name-index l.name-items)
