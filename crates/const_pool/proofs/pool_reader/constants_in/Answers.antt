use Rattle.std.proofs.Common.{◌-◌, arith}
use Rattle.const_pool.proofs.Loop.{is_done}
use Rattle.const_pool.proofs.pool_reader.constants_in.Goals as goal

pub returns : goal.returns
returns c =
    is_done c.args.end (c.args.numbers - c.loop-read.read) c.loop-read.due c.loop-read.constants c.loop-read.rest.now _ (omega arith) c.loop-read.invariant
