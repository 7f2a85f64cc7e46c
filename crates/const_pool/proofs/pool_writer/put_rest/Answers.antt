use Rattle.std.proofs.Common.{◌∙◌, subst}
use Rattle.const_pool.specs.Writing.{Names}
use Rattle.const_pool.proofs.Written.{pool_from, whole_text, only_memory, misfit_few}
use Rattle.const_pool.proofs.pool_writer.put_rest.Goals as goal

pub returns-in-Ok-clause-written : goal.returns-in-Ok-clause-written
returns-in-Ok-clause-written c = (
  pool_from c.args.pool.now c.requires.few c.in-Ok.ensures.none c.in-Ok.ensures.fits,
  c.from_vec.ensures ∙ whole_text c.args.pool.now c.args.out.items c.put_all.new.out.items c.in-Ok.ensures.ok c.requires.count,
)

pub returns-in-Err-clause-only : goal.returns-in-Err-clause-only
returns-in-Err-clause-only c = λ is. only_memory c.in-Err.fault c.args.pool.now is c.in-Err.ensures.fault

pub returns-in-Err-clause-fault : goal.returns-in-Err-clause-fault
returns-in-Err-clause-fault c = subst (Names c.in-Err.fault) (misfit_few c.args.pool.now c.requires.few) c.in-Err.ensures.fault
