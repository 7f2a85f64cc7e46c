use Rattle.std.proofs.Common.{arith, ◌≡◌, ℕ, ◌+◌, ◌<◌, List, ◌∷◌, ◌++◌, length, drop, IfSome, sym, ap, subst, ◌∙◌}
use Rattle.std.proofs.lemmas.List.{drop_more}
use Rattle.io_traits.specs.Files.{get, names, IsInOrder}
use Rattle.mill_top.proofs.ReadingLaws.{order_more, told_more, told_all}
use Rattle.mill_top.proofs.reading.read_files.Goals as goal

pub loop-name-preserved : goal.loop-name-preserved
loop-name-preserved g c =
    let added = c.in_ok-add_file.ensures.added in
    let listed : List (List ℕ) = c.deref-name-items.result.now in
    let x : List ℕ = c.name-item.result in
    let i : ℕ = c.loop-name.name-index in
    let within : i < length listed = c.loop-name-test.true in
    let left : drop i listed ≡ x ∷ drop (i + 1) listed = drop_more listed i x within ∙ ap (λ y. y ∷ drop (i + 1) listed) (sym c.name-item.is) in
    let told = g.W.Workspace.content c.list.new.self in
    let up : IsInOrder listed = rw c.deref-name-items.ensures.value c.in_ok-names.ensures.order in
    let all : IfSome told (λ files. listed ≡ names files) = rw (c.in_ok-names.ensures.content, c.deref-name-items.ensures.value) c.in_ok-names.ensures.all in
    let found : IfSome told (λ files. added.0 ≡ get files x) = subst (λ o. IfSome o (λ files. added.0 ≡ get files x)) c.loop-name.invariant.content added.1 in
    record {
      content = c.in_ok-add_file.ensures.content ∙ c.loop-name.invariant.content;
      later = omega (arith, c.in_ok-add_file.ensures.cause.later, c.loop-name.invariant.later);
      kept = c.in_ok-add_file.ensures.kept ∙ c.loop-name.invariant.kept;
      plan = c.in_ok-add_file.ensures.plan ∙ c.loop-name.invariant.plan;
      order = rw added.2 (order_more c.loop-name.files.items added.0 x (drop (i + 1) listed) (subst (λ rest. IsInOrder (names c.loop-name.files.items ++ rest)) left c.loop-name.invariant.order));
      files = rw added.2 (told_more told listed c.loop-name.files.items i x added.0 up within c.name-item.is all found c.loop-name.invariant.files);
    }

pub returns-clause-files : goal.returns-clause-files
returns-clause-files g c =
    let all : IfSome (g.W.Workspace.content c.list.new.self) (λ files. c.deref-name-items.result.now ≡ names files) =
    rw (c.in_ok-names.ensures.content, c.deref-name-items.ensures.value) c.in_ok-names.ensures.all in
    subst (λ o. IfSome o (λ told. c.tree_of.result ≡ told)) c.in_ok-names.ensures.content
    (rw c.tree_of.ensures (told_all _ c.deref-name-items.result.now c.loop-name.files.items c.loop-name.name-index c.loop-name-test.false all c.loop-name.invariant.files))
