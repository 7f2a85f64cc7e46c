-- No files are a tree.
use Rattle.std.proofs.Common.{◌≡◌, ℕ, List, [], length, Err, refl, ap, arith}
use Rattle.std.specs.Result.{IsErrOf}
use Rattle.io_traits.specs.Files.{File}
use Rattle.tree_value.specs.Trees.{IsFirstOutOfOrder}
use Rattle.tree_value.specs.declared.tree.TreeFault.{TreeFault}
use Rattle.tree_value.specs.declared.tree.TreeFault.TheVariants.{OutOfOrder, Memory}

pub no_tree_fault : {T : Type 0} (files : List File) (why : TreeFault) → files ≡ []
    → ((n : ℕ) → IsErrOf {T = T} (Err why) (OutOfOrder n) → IsFirstOutOfOrder files n) → (IsErrOf {T = T} (Err why) Memory → ⊥) → ⊥
no_tree_fault files (OutOfOrder n) none first never =
    let (above, within) = (first n refl).within in
    omega (arith, above, within, ap length none)
no_tree_fault files Memory none first never = never refl
