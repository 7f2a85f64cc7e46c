use Rattle.std.proofs.Common.{◌≡◌, ℕ, List, Some, sym, ap, subst, ◌∙◌}
use Rattle.io_traits.specs.Files.{Files, names}
use Rattle.out_store.specs.Changes.{takes_out, LeftByRemoves}
use Rattle.out_store.specs.Opening.{AreLoose}
use Rattle.out_store.proofs.ChangeLaws.{on_err}
use Rattle.out_store.proofs.OpeningLaws.{are_unpublished, loose_is_unpublished, at_told}
use Rattle.out_store.proofs.opening.open.Goals as goal

pub returns-in_err-remove_all-clause-err : goal.returns-in_err-remove_all-clause-err
returns-in_err-remove_all-clause-err g c =
    let listed = λ (files : Files) (is : g.S.Store.content c.args.store.now ≡ Some files).
    c.deref.ensures.value ∙ at_told (g.S.Store.content c.args.store.now) files (λ (fs : Files). c.in_ok-listed.listed.items ≡ names fs) is c.in_ok-listed.ensures.all in
    let opens = λ (files : Files) (is : g.S.Store.content c.args.store.now ≡ Some files). c.in_ok-found.ensures.opens files (c.in_ok-listed.ensures.content ∙ is) (listed files is) in
    let before : g.S.Store.content c.read_entries.new.store ≡ g.S.Store.content c.args.store.now = c.in_ok-found.ensures.content ∙ c.in_ok-listed.ensures.content in
    let left = subst (λ (m : _). LeftByRemoves c.deref-3.result.now m (g.S.Store.content c.remove_all.new.store)) before c.in_err-remove_all.ensures.err in
    on_err c.from_residual-in_err-remove_all.result (
      c.in_ok-gone.gone.items,
      subst (λ (xs : List (List ℕ)). LeftByRemoves xs (g.S.Store.content c.args.store.now) (g.S.Store.content c.remove_all.new.store)) c.deref-3.ensures.value left,
      λ files is name among. loose_is_unpublished files c.in_ok-found.found.numbers name (opens files is) (c.in_ok-gone.ensures.each name among),
    )

pub returns-clause-ok : goal.returns-clause-ok
returns-clause-ok g c =
    let listed = λ (files : Files) (is : g.S.Store.content c.args.store.now ≡ Some files).
    c.deref.ensures.value ∙ at_told (g.S.Store.content c.args.store.now) files (λ (fs : Files). c.in_ok-listed.listed.items ≡ names fs) is c.in_ok-listed.ensures.all in
    let opens = λ (files : Files) (is : g.S.Store.content c.args.store.now ≡ Some files). c.in_ok-found.ensures.opens files (c.in_ok-listed.ensures.content ∙ is) (listed files is) in
    let before : g.S.Store.content c.read_entries.new.store ≡ g.S.Store.content c.args.store.now = c.in_ok-found.ensures.content ∙ c.in_ok-listed.ensures.content in (
      c.in_ok-gone.gone.items,
      c.in_ok-remove_all.ensures.ok ∙ ap (λ (xs : List (List ℕ)). takes_out xs (g.S.Store.content c.read_entries.new.store)) c.deref-3.ensures.value ∙ ap (takes_out c.in_ok-gone.gone.items) before,
      λ files is. (
        are_unpublished files c.in_ok-found.found.numbers c.in_ok-gone.gone.items (opens files is)
            (subst (λ (xs : List (List ℕ)). AreLoose c.in_ok-found.found.numbers xs c.in_ok-gone.gone.items) (c.deref-2.ensures.value ∙ sym c.deref.ensures.value ∙ listed files is) c.in_ok-gone.ensures),
        opens files is,
      ),
    )

pub returns-clause-entries : goal.returns-clause-entries
returns-clause-entries g c files is =
    c.in_ok-found.ensures.entries files (c.in_ok-listed.ensures.content ∙ is)
    (c.deref.ensures.value ∙ at_told (g.S.Store.content c.args.store.now) files (λ (fs : Files). c.in_ok-listed.listed.items ≡ names fs) is c.in_ok-listed.ensures.all)
