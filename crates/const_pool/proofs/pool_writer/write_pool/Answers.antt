use Rattle.std.proofs.Common.{◌≤◌, length}
use Rattle.const_pool.proofs.Written.{misfit_many}
use Rattle.const_pool.proofs.pool_writer.write_pool.Goals as goal

pub returns-then-numbers-ge65535-clause-fault : goal.returns-then-numbers-ge65535-clause-fault
returns-then-numbers-ge65535-clause-fault c =
    let many : 65535 ≤ length c.args.pool.now.constants = rw (← c.as_slice-numbers.ensures) c.if-numbers-ge65535.true in
    misfit_many c.args.pool.now many
