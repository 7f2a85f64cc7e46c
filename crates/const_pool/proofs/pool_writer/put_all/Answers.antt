use Rattle.std.proofs.Common.{◌≡◌, ◌+◌, ◌<◌, ◌≤◌, List, eqb, false, length, get_or, ◌∙◌, ap}
use Rattle.class_model.specs.declared.constant_pool.Constant.{Constant}
use Rattle.const_pool.specs.Writing.{misfit_from}
use Rattle.const_pool.proofs.Written.{names_next, misfit_next, none_behind, written_more, fits_more}
use Rattle.const_pool.proofs.pool_writer.put_all.Goals as goal

pub returns-in-Err-clause-fault : goal.returns-in-Err-clause-fault
returns-in-Err-clause-fault c =
    let cs = c.args.pool.now.constants in
    let i = c.loop-i.i in
    let within : i < length cs = rw (← c.as_slice-constants.ensures) c.loop-i-test.true in
    let is : c.index-constants-i.result ≡ get_or cs i c.index-constants-i.result = rw (← c.as_slice-constants.ensures) c.index-constants-i.is in
    let last = eqb (i + 1) (length c.as_slice-constants.result.now) in
    let ends : last ≡ eqb (i + 1) (length cs) = ap (λ (l : List Constant). eqb (i + 1) (length l)) c.as_slice-constants.ensures in
    names_next c.in-Err.fault c.args.pool.now i c.loop-i.due last cs c.index-constants-i.result (misfit_from c.args.pool.now 1 false cs) within is ends c.in-Err.ensures.fault c.loop-i.invariant.0

pub loop-i-preserved : goal.loop-i-preserved
loop-i-preserved c =
    let cs = c.args.pool.now.constants in
    let i = c.loop-i.i in
    let within : i < length cs = rw (← c.as_slice-constants.ensures) c.loop-i-test.true in
    let is : c.index-constants-i.result ≡ get_or cs i c.index-constants-i.result = rw (← c.as_slice-constants.ensures) c.index-constants-i.is in
    let last = eqb (i + 1) (length c.as_slice-constants.result.now) in
    let ends : last ≡ eqb (i + 1) (length cs) = ap (λ (l : List Constant). eqb (i + 1) (length l)) c.as_slice-constants.ensures in (
      misfit_next c.args.pool.now i c.loop-i.due last c.takes_two-due.result cs c.index-constants-i.result (misfit_from c.args.pool.now 1 false cs) within is ends c.in-Ok.ensures.none c.takes_two-due.ensures c.loop-i.invariant.0,
      c.in-Ok.ensures.ok ∙ written_more c.args.out.now.items c.loop-i.out.items cs i c.index-constants-i.result within is c.loop-i.invariant.1,
      fits_more cs i c.index-constants-i.result within is c.loop-i.invariant.2 c.in-Ok.ensures.fits,
    )

pub returns-clause-none : goal.returns-clause-none
returns-clause-none c =
    let cs = c.args.pool.now.constants in
    let past : length cs ≤ c.loop-i.i = rw (← c.as_slice-constants.ensures) c.loop-i-test.false in
    none_behind c.args.pool.now c.loop-i.i c.loop-i.due cs (misfit_from c.args.pool.now 1 false cs) past c.loop-i.invariant.0
