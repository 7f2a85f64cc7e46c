use Rattle.std.proofs.Common.{◌≡◌, ℕ, List, ◌++◌, ◌∷◌, length, take, drop, codes, nat_eq, true, false, sym, subst, ap, ◌∙◌, true≢false}
use Rattle.std.specs.Cmp.Lexicographic.{pointwise}
use Rattle.std.proofs.lemmas.List.{take-append-drop}
use Rattle.std.proofs.lemmas.Slice.Eq.{bytes_eq-Decides}
use Rattle.out_store.specs.Names.{IsCut}
use Rattle.out_store.proofs.ReadingLaws.{no_parts_no_dot, behind_dot, whole_again, not_cut}
use Rattle.out_store.proofs.names.generation_parts.Goals as goal

pub returns-in_default : goal.returns-in_default
returns-in_default c folder digits path lacks more is =
    no_parts_no_dot c.args.name.now folder digits path (rw c.in_default.is at c.cut.ensures) is

pub returns-in_default-strip_prefix : goal.returns-in_default-strip_prefix
returns-in_default-strip_prefix c folder digits path lacks more is =
    let first : IsCut 46 c.args.name.now c.in-Some.folder.now c.in-Some.rest.now = rw c.in-Some.is at c.cut.ensures in
    let behind = behind_dot c.args.name.now c.in-Some.folder.now c.in-Some.rest.now folder digits path first lacks is in
    let none = rw c.in_default-strip_prefix.is at c.strip_prefix.ensures.cases in
    let not_front : pointwise nat_eq (take 6 c.in-Some.rest.now) (codes "dest/g") ≡ false = subst (λ (p : List ℕ). pointwise nat_eq (take (length p) c.in-Some.rest.now) p ≡ false) c.as_slice.ensures none in
    let whole : pointwise nat_eq (take 6 c.in-Some.rest.now) (codes "dest/g") ≡ true = ap (λ (r : List ℕ). pointwise nat_eq (take 6 r) (codes "dest/g")) behind.1 in
    absurd (true≢false (sym whole ∙ not_front))

pub returns : goal.returns
returns c =
    let first : IsCut 46 c.args.name.now c.in-Some.folder.now c.in-Some.rest.now = rw c.in-Some.is at c.cut.ensures in
    let some = rw c.in-Some-strip_prefix.is at c.strip_prefix.ensures.cases in
    let second : IsCut 47 c.in-Some-strip_prefix.rest.now c.in-Some-cut.digits.now c.in-Some-cut._path.now = rw c.in-Some-cut.is at c.cut-2.ensures in
    let is_front : pointwise nat_eq (take 6 c.in-Some.rest.now) (codes "dest/g") ≡ true = subst (λ (p : List ℕ). pointwise nat_eq (take (length p) c.in-Some.rest.now) p ≡ true) c.as_slice.ensures some.0 in
    let front = (bytes_eq-Decides (take 6 c.in-Some.rest.now) (codes "dest/g")).0 is_front in
    let behind : c.in-Some-strip_prefix.rest.now ≡ drop 6 c.in-Some.rest.now = some.1 ∙ ap (λ (p : List ℕ). drop (length p) c.in-Some.rest.now) c.as_slice.ensures in
    let is : c.in-Some.rest.now ≡ codes "dest/g" ++ c.in-Some-strip_prefix.rest.now = sym (take-append-drop 6 c.in-Some.rest.now) ∙ ap (λ (f : List ℕ). f ++ drop 6 c.in-Some.rest.now) front ∙ ap (λ (r : List ℕ). codes "dest/g" ++ r) (sym behind) in
    (first.lacks, second.lacks, (c.in-Some-cut._path.now, whole_again c.args.name.now c.in-Some.folder.now c.in-Some.rest.now c.in-Some-strip_prefix.rest.now c.in-Some-cut.digits.now c.in-Some-cut._path.now first is second))

pub returns-in_default-cut : goal.returns-in_default-cut
returns-in_default-cut c folder digits path lacks more is =
    let first : IsCut 46 c.args.name.now c.in-Some.folder.now c.in-Some.rest.now = rw c.in-Some.is at c.cut.ensures in
    let behind = behind_dot c.args.name.now c.in-Some.folder.now c.in-Some.rest.now folder digits path first lacks is in
    let some = rw c.in-Some-strip_prefix.is at c.strip_prefix.ensures.cases in
    let left : c.in-Some-strip_prefix.rest.now ≡ digits ++ 47 ∷ path = some.1 ∙ ap (λ (p : List ℕ). drop (length p) c.in-Some.rest.now) c.as_slice.ensures ∙ ap (drop 6) behind.1 in
    not_cut 47 c.in-Some-strip_prefix.rest.now digits path (rw c.in_default-cut.is at c.cut-2.ensures) left
