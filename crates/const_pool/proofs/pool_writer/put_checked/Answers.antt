use Rattle.std.proofs.Common.{sym}
use Rattle.const_pool.proofs.Written.{fit_from}
use Rattle.const_pool.proofs.pool_writer.put_checked.Goals as goal

pub put_constant-requires-clause-short : goal.put_constant-requires-clause-short
put_constant-requires-clause-short c = (fit_from c.args.pool.now c.args.number c.args.due c.args.last c.args.constant.now (sym c.in-None.ensures)).short

pub put_constant-requires-clause-formed : goal.put_constant-requires-clause-formed
put_constant-requires-clause-formed c = (fit_from c.args.pool.now c.args.number c.args.due c.args.last c.args.constant.now (sym c.in-None.ensures)).formed
