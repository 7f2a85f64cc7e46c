use Rattle.std.proofs.Common.{refl, inl, inr}
use Rattle.out_store.proofs.ChangeLaws.{all_put}
use Rattle.out_store.specs.Publishing.{puts_of}
use Rattle.out_store.proofs.putting.put_next.Goals as goal

pub returns-in_err-number-clause-went : goal.returns-in_err-number-clause-went
returns-in_err-number-clause-went g c = inl (c.in_err-number.ensures.err, refl)

pub returns-in_err-texts-clause-went : goal.returns-in_err-texts-clause-went
returns-in_err-texts-clause-went g c = inr (c.in_ok-number.number, c.in_ok-number.ensures.next, c.in_ok-number.ensures.used, inl refl)

pub returns-in_err-put_run-clause-went : goal.returns-in_err-put_run-clause-went
returns-in_err-put_run-clause-went g c = inr (c.in_ok-number.number, c.in_ok-number.ensures.next, c.in_ok-number.ensures.used, inr (c.in_ok-texts.ensures.parts, c.in_err-put_run.ensures.err))

pub returns-clause-went : goal.returns-clause-went
returns-clause-went g c =
    inr (c.in_ok-number.number, c.in_ok-number.ensures.next, c.in_ok-number.ensures.used, inr (c.in_ok-texts.ensures.parts, all_put (puts_of c.args.run.now c.in_ok-number.number) (g.S.Store.content c.args.store.now) (g.S.Store.content c.put_run.new.store) c.in_ok-put_run.ensures.ok))
