use Rattle.std.proofs.Common.{List, ap, subst, ◌∙◌}
use Rattle.io_traits.specs.Files.{File}
use Rattle.out_store.specs.Changes.{puts_in, LeftByPuts}
use Rattle.out_store.specs.Publishing.{dest_puts}
use Rattle.out_store.proofs.ChangeLaws.{on_err}
use Rattle.out_store.proofs.PublishLaws.{texts, two_puts, whole_publish, front_left, back_left}
use Rattle.out_store.proofs.putting.put_run.Goals as goal

pub returns-in_err-put_dest-clause-err : goal.returns-in_err-put_dest-clause-err
returns-in_err-put_dest-clause-err g c =
    let is = two_puts _ _ _ _ _ _ _ _ c.requires.log_name c.requires.log c.requires.entry_name c.requires.entry in
    on_err c.from_residual.result
    (front_left c.args.run.now c.args.number (texts c.args.texts.now.log_name c.args.texts.now.log c.args.texts.now.entry_name c.args.texts.now.entry) is (g.S.Store.content c.args.store.now) (g.S.Store.content c.put_dest.new.store)
    (subst (λ (fs : List File). LeftByPuts (dest_puts c.args.run.now.task c.args.number fs) (g.S.Store.content c.args.store.now) (g.S.Store.content c.put_dest.new.store)) c.as_slice.ensures.files c.in_err-put_dest.ensures.err))

pub returns-in_err-put-clause-err : goal.returns-in_err-put-clause-err
returns-in_err-put-clause-err g c =
    let is = two_puts _ _ _ _ _ _ _ _ c.requires.log_name c.requires.log c.requires.entry_name c.requires.entry in
    on_err c.from_residual-in_err-put.result
    (back_left c.args.run.now c.args.number (texts c.args.texts.now.log_name c.args.texts.now.log c.args.texts.now.entry_name c.args.texts.now.entry) is (g.S.Store.content c.args.store.now) (g.S.Store.content c.put_dest.new.store) (g.S.Store.content c.put.new.store)
    (c.in_ok-put_dest.ensures.ok ∙ ap (λ (fs : List File). puts_in (dest_puts c.args.run.now.task c.args.number fs) (g.S.Store.content c.args.store.now)) c.as_slice.ensures.files) c.in_err-put.ensures.err)

pub returns-clause-ok : goal.returns-clause-ok
returns-clause-ok g c =
    let is = two_puts _ _ _ _ _ _ _ _ c.requires.log_name c.requires.log c.requires.entry_name c.requires.entry in
    whole_publish c.args.run.now c.args.number (texts c.args.texts.now.log_name c.args.texts.now.log c.args.texts.now.entry_name c.args.texts.now.entry) is (g.S.Store.content c.args.store.now) (g.S.Store.content c.put_dest.new.store) (g.S.Store.content c.put.new.store)
    (c.in_ok-put_dest.ensures.ok ∙ ap (λ (fs : List File). puts_in (dest_puts c.args.run.now.task c.args.number fs) (g.S.Store.content c.args.store.now)) c.as_slice.ensures.files) c.in_ok-put.ensures.ok
