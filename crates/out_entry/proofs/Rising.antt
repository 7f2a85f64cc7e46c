-- Paths that do not rise.
use Rattle.std.proofs.Common.{◌≡◌, ℕ, ◌-◌, ◌<◌, ◌≤◌, true, List, [], length, get_or, sym, ap, ap₂, ◌∙◌, arith, true≢false, is_ge}
use Rattle.std.proofs.lemmas.List.{get_or_default}
use Rattle.std.specs.declared.cmp.Ordering.{Ordering}
use Rattle.std.specs.declared.cmp.Ordering.TheVariants.{Less}
use Rattle.std.specs.FinMap.Entries.{is_sorted}
use Rattle.tree_value.specs.Trees.{path_cmp, path_at}
use Rattle.tree_value.proofs.Rising.{rising-less}
use Rattle.out_entry.proofs.EntryText.{Files}

path_here : (files : Files) (k : ℕ) (d : List ℕ × List ℕ) → k < length files → (get_or files k d).0 ≡ path_at files k
path_here files k d within = ap (λ (f : List ℕ × List ℕ). f.0) (get_or_default files k d ([], []) within)

pub not_rising : (files : Files) (k : ℕ) (x y : List ℕ × List ℕ) (o : Ordering) → 1 ≤ k → k < length files → o ≡ path_cmp (get_or files (k - 1) x).0 (get_or files k y).0 → is_ge o ≡ true
    → is_sorted path_cmp files ≡ true → ⊥
not_rising files k x y o some within is ge sorted =
    let before : k - 1 < length files = omega arith in
    let less = rising-less files (k - 1) k sorted (omega arith) within in
    let same : o ≡ Less = is ∙ ap₂ path_cmp (path_here files (k - 1) x before) (path_here files k y within) ∙ less in
    true≢false (sym ge ∙ ap is_ge same)
