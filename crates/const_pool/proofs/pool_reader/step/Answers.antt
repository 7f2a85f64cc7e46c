use Rattle.const_pool.proofs.Loop.{second_read, constant_read, fails_too}
use Rattle.const_pool.proofs.pool_reader.step.Goals as goal

pub returns-then-due-clause-step : goal.returns-then-due-clause-step
returns-then-due-clause-step c =
    rw (c.in_ok-push.ensures.ok, c.if-due.true) (second_read c.args.end c.args.left c.args.constants.now c.args.bytes.now c.requires)

pub returns-in_ok-push-in-Ok-clause-step : goal.returns-in_ok-push-in-Ok-clause-step
returns-in_ok-push-in-Ok-clause-step c =
    rw (c.in_ok-push-in-Ok.ensures.ok, c.if-due.false)
    (constant_read c.args.end c.args.left c.args.constants.now c.args.bytes.now c.in-Ok.constant c.in-Ok.rest.now c.takes_two-wide.result c.requires c.in-Ok.ensures c.takes_two-wide.ensures)

pub returns-in-Err-clause-fault : goal.returns-in-Err-clause-fault
returns-in-Err-clause-fault c =
    rw c.if-due.false (fails_too c.in-Err.fault c.args.end c.args.left c.args.constants.now c.args.bytes.now c.requires c.in-Err.ensures)
