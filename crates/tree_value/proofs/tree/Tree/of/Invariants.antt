use Rattle.std.proofs.Common.{◌≡◌, ℕ, ◌<◌, ◌+◌, List, slice_index_or}
use Rattle.std.specs.declared.cmp.Ordering.TheVariants.{Less}
use Rattle.tree_value.specs.Paths.{IsPath}
use Rattle.tree_value.specs.Trees.{path_cmp, path_at}
use Rattle.tree_value.proofs.tree.Tree.of.Given as goal

-- the files before `at` have paths, each less than the next
pub record IsKept (files : List (List ℕ × List ℕ)) (at : ℕ) : Type 0 where
  pub paths : (k : ℕ) (file : List ℕ × List ℕ) → k < at → IsPath (slice_index_or files k file).0
  pub rising : (k : ℕ) → k + 1 < at → path_cmp (path_at files k) (path_at files (k + 1)) ≡ Less

abbrev pub invariant-loop-at : goal.invariant-loop-at
invariant-loop-at l = IsKept l.files.items l.at
