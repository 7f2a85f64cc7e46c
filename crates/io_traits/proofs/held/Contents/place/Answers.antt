use Rattle.std.proofs.Common.{rules}
use Rattle.std.proofs.lemmas.Fn.{always_returns_same}
use Rattle.tree_value.specs.Trees.{path_cmp}
use Rattle.io_traits.proofs.Places.{searched}
use Rattle.io_traits.proofs.held.Contents.place.Goals as goal

-- the closure compares a file's name with the one that is sought
pub returns : goal.returns
returns c =
    let facts = c.binary_search_by.ensures in
    let by_name = facts.position (λ file. path_cmp file.0 c.args.name.now) (always_returns_same _ _ _ (λ a r g called. search rules)) in
    rw (← c.self.view_is, ← c.deref.ensures.value) (searched _ (rw c.deref.ensures.value c.self.invariant) c.args.name.now _ facts.bound by_name)
