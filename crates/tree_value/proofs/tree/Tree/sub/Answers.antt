use Rattle.std.proofs.Common.{◌≡◌, ap, sym, subst, ◌∙◌, Option, Some, None, ℕ, ◌+◌, ◌<◌, ◌≤◌, add-one, arith, List, [], ◌∷◌, ◌++◌, length, take, option_map, slice_index_or}
use Rattle.std.specs.List.{cons_option}
use Rattle.std.proofs.Math.Seq.{take-suc, take-length}
use Rattle.std.proofs.lemmas.List.{append-nil}
use Rattle.std.proofs.lemmas.List.Elements.{filter_map-append}
use Rattle.tree_value.specs.Trees.{IsTree, files_below, path_below}
use Rattle.tree_value.proofs.Below.{IsTree-files_below, files_below-nothing}
use Rattle.tree_value.proofs.tree.Tree.sub.Goals.{in-Some+in_ok-copy+in_ok-push, in_default}
use Rattle.tree_value.proofs.tree.Tree.sub.Goals as goal

-- what the first k files give, and then file k
one_more : (top : List ℕ) (done files : List (List ℕ × List ℕ)) (k : ℕ) (file : List ℕ × List ℕ) (left : Option (List ℕ)) → k < length files → file ≡ slice_index_or files k file → done ≡ files_below top (take k files) → left ≡ path_below top file.0 → done ++ cons_option (option_map (λ rest. (rest, file.1)) left) [] ≡ files_below top (take (k + 1) files)
one_more top done files k file left below is before left_is =
    let upto : take (k + 1) files ≡ take k files ++ file ∷ [] = ap (λ n. take n files) (add-one k) ∙ take-suc files k file below ∙ ap (λ f. take k files ++ f ∷ []) (sym is) in
    let first : done ++ cons_option (option_map (λ rest. (rest, file.1)) left) [] ≡ files_below top (take k files) ++ files_below top (file ∷ []) =
    λ i. before i ++ cons_option (option_map (λ rest. (rest, file.1)) (left_is i)) [] in
    first ∙ sym (filter_map-append (λ (f : List ℕ × List ℕ). option_map (λ rest. (rest, f.1)) (path_below top f.0)) (take k files) (file ∷ [])) ∙ ap (files_below top) (sym upto)

-- where the loop ends it has seen every file of the tree
all_files : (k : ℕ) (files inside : List (List ℕ × List ℕ)) → length files ≤ k → k ≤ length files → files ≡ inside → take k files ≡ inside
all_files k files inside past upto same =
    let end : k ≡ length files = omega (arith, past, upto) in
    ap (λ n. take n files) end ∙ take-length files ∙ same

pub loop-name-preserved : goal.loop-name-preserved
loop-name-preserved c =
    let more = one_more c.args.path.now c.loop-name.files.items c.as_slice-name-items.result.now c.loop-name.name-index c.loop-name-item.result in
    elim c.match-branch-2.branch [
      | in-Some+in_ok-copy+in_ok-push w ↦
          ap (λ v. v.items) w.files-is ∙ w.in_ok-push.ensures.items ∙ ap (λ bytes. c.loop-name.files.items ++ (w.in-Some.below, bytes) ∷ []) w.in_ok-copy.ensures
          ∙ more (Some w.in-Some.below) c.loop-name-test.true c.loop-name-item.is c.loop-name.invariant (sym w.in-Some.is ∙ c.in_ok-below.ensures)
      | in_default w ↦
          ap (λ v. v.items) w.files-is ∙ sym (append-nil c.loop-name.files.items) ∙ more None c.loop-name-test.true c.loop-name-item.is c.loop-name.invariant (sym w.in_default.is ∙ c.in_ok-below.ensures)
    ]

pub invariant_of-result : goal.invariant_of-result
invariant_of-result c =
    let P : List (List ℕ × List ℕ) → Type 0 = IsTree in
    subst P (sym (c.from_vec.ensures ∙ c.loop-name.invariant ∙ ap (files_below c.args.path.now) (all_files c.loop-name.name-index c.as_slice-name-items.result.now c.self.inside.files c.loop-name-test.false c.loop-name.auto.name-index-end c.as_slice-name-items.ensures))) (IsTree-files_below c.args.path.now c.self.inside.files c.self.invariant)

pub returns-clause-whole : goal.returns-clause-whole
returns-clause-whole c empty =
    c.from_vec.ensures ∙ c.loop-name.invariant ∙ ap (files_below c.args.path.now) (all_files c.loop-name.name-index c.as_slice-name-items.result.now c.self.inside.files c.loop-name-test.false c.loop-name.auto.name-index-end c.as_slice-name-items.ensures)
    ∙ ap (λ path. files_below path c.self.inside.files) empty ∙ files_below-nothing c.self.inside.files ∙ c.self.view_is
