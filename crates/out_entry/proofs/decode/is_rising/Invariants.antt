use Rattle.std.proofs.Common.{◌≡◌, ℕ, suc, ◌<◌}
use Rattle.std.specs.declared.cmp.Ordering.TheVariants.{Less}
use Rattle.tree_value.specs.Trees.{path_cmp, path_at}
use Rattle.out_entry.proofs.decode.is_rising.Given as goal

abbrev pub invariant-loop-place : goal.invariant-loop-place
invariant-loop-place l = (k : ℕ) → suc k < l.place → path_cmp (path_at l.files k) (path_at l.files (suc k)) ≡ Less
