use Rattle.std.proofs.Common.{◌≡◌, ◌≤◌, ◌+◌, subst, sym, arith, add-one, List, ℕ, suc, length}
use Rattle.std.specs.declared.cmp.Ordering.TheVariants.{Less}
use Rattle.tree_value.specs.Trees.{IsTree, path_cmp, path_at}
use Rattle.tree_value.proofs.Rising.{rising-from_neighbours}
use Rattle.tree_value.proofs.tree.Tree.of.Invariants.{IsKept}
use Rattle.tree_value.proofs.tree.Tree.of.Goals as goal

-- files that were all looked at are a tree
kept_all : (files : List (List ℕ × List ℕ)) (n : ℕ) → length files ≤ n → IsKept files n → IsTree files
kept_all files n all kept = record {
  paths = λ k file below. kept.paths k file (omega (arith, all, below));
  rising = rising-from_neighbours files (λ k below. let next : k + 1 ≡ suc k = add-one k in subst (λ m. path_cmp (path_at files k) (path_at files m) ≡ Less) next (kept.rising k (omega (arith, all, below))));
}

pub invariant_of-result : goal.invariant_of-result
invariant_of-result c = let P : List (List ℕ × List ℕ) → Type 0 = IsTree in subst P (sym c.from_vec.ensures) (kept_all c.args.files.items c.loop-at.at (omega arith) c.loop-at.invariant)

pub returns-clause-ok : goal.returns-clause-ok
returns-clause-ok c = (c.from_vec.ensures, kept_all c.args.files.items c.loop-at.at (omega arith) c.loop-at.invariant)
