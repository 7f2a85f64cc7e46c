use Rattle.std.proofs.Common.{◌≡◌, rules, ap, sym, subst, ◌∙◌, Option, Some, true, ℕ, List}
use Rattle.std.proofs.lemmas.Fn.{always_returns_same}
use Rattle.std.specs.FinMap.Entries.{find, is_sorted}
use Rattle.std.specs.declared.cmp.Ordering.TheVariants.{Equal}
use Rattle.tree_value.specs.Trees.{path_cmp}
use Rattle.tree_value.proofs.Rising.{find-from_tie, find-from_gap}
use Rattle.tree_value.proofs.tree.Tree.file.Goals as goal

-- what was found in the slice is what the tree has
searched : (files view : List (List ℕ × List ℕ)) (path : List ℕ) (found : Option (List ℕ)) → files ≡ view → find path_cmp path files ≡ found → found ≡ find path_cmp path view
searched files view path found same is = sym is ∙ ap (find path_cmp path) same

rising : (files inside : List (List ℕ × List ℕ)) → files ≡ inside → is_sorted path_cmp inside ≡ true → is_sorted path_cmp files ≡ true
rising files inside same h = ap (is_sorted path_cmp) same ∙ h

pub returns-in-Ok : goal.returns-in-Ok
returns-in-Ok c =
    let here = c.in-Ok.ensures.position (λ file. path_cmp file.0 c.args.path.now) (always_returns_same _ _ _ (λ a r f called. search rules)) in
    ap Some c.as_slice.ensures ∙ ap (λ (f : List ℕ × List ℕ). Some f.1) (sym c.index-files-at.is)
    ∙ searched _ _ c.args.path.now _ (c.as_slice-files.ensures ∙ c.self.view_is)
    (find-from_tie c.as_slice-files.result.now c.args.path.now c.in-Ok.at c.index-files-at.result (rising _ _ c.as_slice-files.ensures c.self.invariant.rising) c.in-Ok.ensures.bound c.index-files-at.is
    (subst (λ (f : List ℕ × List ℕ). path_cmp f.0 c.args.path.now ≡ Equal) (sym c.index-files-at.is) (here c.index-files-at.result)))

pub returns-in-Err : goal.returns-in-Err
returns-in-Err c =
    let gap = c.in-Err.ensures.position (λ file. path_cmp file.0 c.args.path.now) (always_returns_same _ _ _ (λ a r f called. search rules)) in
    searched _ _ c.args.path.now _ (c.as_slice-files.ensures ∙ c.self.view_is)
    (find-from_gap c.as_slice-files.result.now c.args.path.now c.in-Err.field-0 (rising _ _ c.as_slice-files.ensures c.self.invariant.rising) gap)
