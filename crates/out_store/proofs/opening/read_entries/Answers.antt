use Rattle.std.proofs.Common.{◌≡◌, ℕ, List, ◌++◌, ◌∷◌, ◌+◌, [], take, Some, None, refl, sym, ap, subst, ◌∙◌, arith}
use Rattle.std.specs.BTreeMap.{get}
use Rattle.std.proofs.lemmas.List.{take_more, take_all}
use Rattle.tree_value.specs.Trees.{path_cmp}
use Rattle.io_traits.specs.Files.{IsInOrder}
use Rattle.out_store.specs.Opened.{AreKept, AreKeptUnder}
use Rattle.out_store.specs.Opening.{Covers}
use Rattle.out_store.proofs.NamesBelow.{in_order_take}
use Rattle.out_store.proofs.OpenedLaws.{none_kept, all_kept}
use Rattle.out_store.proofs.OpeningLaws.{opens_from}
use Rattle.out_store.proofs.opening.read_entries.Goals as goal

pub loop-name-preserved : goal.loop-name-preserved
loop-name-preserved g c = record {
  read = λ files is. c.in_ok-read_one.ensures.read files (c.loop-name.invariant.content ∙ is) (c.loop-name.invariant.read files is);
  covers = λ files is.
      let seen : List (List ℕ) = take c.loop-name.name-index c.args.listed.now in
      let upto : take (c.loop-name.name-index + 1) c.args.listed.now ≡ seen ++ c.name-item.result ∷ [] =
      take_more c.args.listed.now c.loop-name.name-index c.name-item.result c.loop-name-test.true ∙ ap (λ (y : List ℕ). seen ++ y ∷ []) (sym c.name-item.is) in
      subst (λ (xs : List (List ℕ)). Covers files c.read_one.new.numbers xs) (sym upto)
      (c.in_ok-read_one.ensures.covers files seen (c.loop-name.invariant.content ∙ is) (c.loop-name.invariant.read files is) (c.loop-name.invariant.covers files is));
  entries = λ files is all.
      let seen : List (List ℕ) = take c.loop-name.name-index c.args.listed.now in
      let upto : take (c.loop-name.name-index + 1) c.args.listed.now ≡ seen ++ c.name-item.result ∷ [] =
      take_more c.args.listed.now c.loop-name.name-index c.name-item.result c.loop-name-test.true ∙ ap (λ (y : List ℕ). seen ++ y ∷ []) (sym c.name-item.is) in
      let order : IsInOrder (seen ++ c.name-item.result ∷ []) = subst IsInOrder upto (in_order_take (c.loop-name.name-index + 1) c.args.listed.now c.requires) in
      subst (λ (xs : List (List ℕ)). AreKeptUnder files xs c.read_one.new.entries.items) (sym upto)
      (c.in_ok-read_one.ensures.entries files seen (c.loop-name.invariant.content ∙ is) all order (c.loop-name.invariant.entries files is all));
  taken = λ task. ap (λ (m : _). get path_cmp m task) c.in_ok-read_one.ensures.taken ∙ c.loop-name.invariant.taken task;
  content = c.in_ok-read_one.ensures.content ∙ c.loop-name.invariant.content;
  later = omega (arith, c.in_ok-read_one.ensures.cause.later, c.loop-name.invariant.later);
  kept = c.in_ok-read_one.ensures.kept ∙ c.loop-name.invariant.kept;
  plan = c.in_ok-read_one.ensures.plan ∙ c.loop-name.invariant.plan;
}

pub loop-name-init : goal.loop-name-init
loop-name-init g c = record {
  read = λ files is task number opening. let clash : None ≡ Some number = sym (c.none-numbers.ensures.opening task) ∙ opening in absurd (cc (clash));
  covers = λ files is task entry reads (k, within, at). absurd (omega (arith, within));
  entries = λ files is all. subst (AreKeptUnder files []) (sym c.new-entries.ensures.items) (none_kept files);
  taken = c.none-numbers.ensures.taken;
  content = refl;
  later = omega arith;
  kept = refl;
  plan = refl;
}

pub returns-clause-opens : goal.returns-clause-opens
returns-clause-opens g c files is listed =
    opens_from files c.loop-name.numbers (c.loop-name.invariant.read files is)
    (subst (λ (xs : List (List ℕ)). Covers files c.loop-name.numbers xs) (take_all c.loop-name.name-index c.args.listed.now c.loop-name-test.false ∙ listed) (c.loop-name.invariant.covers files is))

pub returns-clause-entries : goal.returns-clause-entries
returns-clause-entries g c files is listed =
    subst (AreKept files) (sym c.from_vec-entries.ensures)
    (all_kept files c.loop-name.entries.items
    (subst (λ (xs : List (List ℕ)). AreKeptUnder files xs c.loop-name.entries.items) (take_all c.loop-name.name-index c.args.listed.now c.loop-name-test.false ∙ listed) (c.loop-name.invariant.entries files is listed)))
