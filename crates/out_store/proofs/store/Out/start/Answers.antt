use Rattle.std.proofs.Common.{ℕ, List, Contains}
use Rattle.io_traits.specs.Files.{Files}
use Rattle.out_store.specs.Generations.{AreUnpublished, IsUnpublished}
use Rattle.out_store.specs.Opened.{AreKept}
use Rattle.out_store.proofs.OpenedLaws.{kept_after}
use Rattle.out_store.proofs.OpeningLaws.{if_told}
use Rattle.out_store.proofs.OpeningStands.{opening_stands, opening_others, opened_left, opening_knows, is_opened}
use Rattle.out_store.proofs.store.Out.start.Goals as goal

pub returns-in-Ok-clause-ok : goal.returns-in-Ok-clause-ok
returns-in-Ok-clause-ok g c =
    let ok = c.in-Ok.ensures.ok in
    is_opened (g.S.Store.content c.args.store) (g.S.Store.content c.open.new.store) c.in-Ok.found.numbers ok.0 ok.1 ok.2 c.in-Ok.ensures.taken

pub returns-in-Ok-clause-others : goal.returns-in-Ok-clause-others
returns-in-Ok-clause-others g c =
    let ok = c.in-Ok.ensures.ok in
    opening_others (g.S.Store.content c.args.store) (g.S.Store.content c.open.new.store)
    (opened_left (g.S.Store.content c.args.store) (g.S.Store.content c.open.new.store) ok.0 ok.1 (if_told (g.S.Store.content c.args.store) (λ (files : Files). AreUnpublished files ok.0) (λ files told. (ok.2 files told).0)))

pub returns-in-Ok-clause-opening_still : goal.returns-in-Ok-clause-opening_still
returns-in-Ok-clause-opening_still g c =
    let ok = c.in-Ok.ensures.ok in
    kept_after (g.S.Store.content c.args.store) (g.S.Store.content c.open.new.store) ok.0 c.in-Ok.found.entries ok.1
    (opening_others (g.S.Store.content c.args.store) (g.S.Store.content c.open.new.store)
    (opened_left (g.S.Store.content c.args.store) (g.S.Store.content c.open.new.store) ok.0 ok.1 (if_told (g.S.Store.content c.args.store) (λ (files : Files). AreUnpublished files ok.0) (λ files told. (ok.2 files told).0))))
    (if_told (g.S.Store.content c.args.store) (λ (files : Files). AreKept files c.in-Ok.found.entries) c.in-Ok.ensures.entries)

pub returns-in-Ok-clause-knows : goal.returns-in-Ok-clause-knows
returns-in-Ok-clause-knows g c told =
    let ok = c.in-Ok.ensures.ok in
    opening_knows (g.S.Store.content c.args.store) (g.S.Store.content c.open.new.store) c.in-Ok.found.numbers ok.0 told ok.1 ok.2

pub returns-in-Ok-clause-stands : goal.returns-in-Ok-clause-stands
returns-in-Ok-clause-stands g c rows lost stands =
    let ok = c.in-Ok.ensures.ok in
    opening_stands (g.S.Store.content c.args.store) (g.S.Store.content c.open.new.store) rows lost
    (opened_left (g.S.Store.content c.args.store) (g.S.Store.content c.open.new.store) ok.0 ok.1 (if_told (g.S.Store.content c.args.store) (λ (files : Files). AreUnpublished files ok.0) (λ files told. (ok.2 files told).0)))
    stands

pub returns-in-Err-clause-err : goal.returns-in-Err-clause-err
returns-in-Err-clause-err g c =
    let err = c.in-Err.ensures.err in
    (err.0, err.1, if_told (g.S.Store.content c.args.store) (λ (files : Files). (name : List ℕ) → Contains err.0 name → IsUnpublished files name) err.2)

pub returns-in-Err-clause-others : goal.returns-in-Err-clause-others
returns-in-Err-clause-others g c =
    let err = c.in-Err.ensures.err in
    opening_others (g.S.Store.content c.args.store) (g.S.Store.content c.open.new.store)
    (err.0, err.1, if_told (g.S.Store.content c.args.store) (λ (files : Files). (name : List ℕ) → Contains err.0 name → IsUnpublished files name) err.2)

pub returns-in-Err-clause-stands : goal.returns-in-Err-clause-stands
returns-in-Err-clause-stands g c rows lost stands =
    let err = c.in-Err.ensures.err in
    opening_stands (g.S.Store.content c.args.store) (g.S.Store.content c.open.new.store) rows lost
    (err.0, err.1, if_told (g.S.Store.content c.args.store) (λ (files : Files). (name : List ℕ) → Contains err.0 name → IsUnpublished files name) err.2)
    stands
