use Rattle.std.proofs.Common.{sym, arith}
use Rattle.const_pool.proofs.Places.{room}
use Rattle.const_pool.proofs.pool_reader.pool_in.Goals as goal

pub judge-requires : goal.judge-requires
judge-requires c =
    rw c.offset_of.ensures
    (room c.args.end c.args.bytes.now c.in-Some.count c.in-Some.rest.now c.in-Ok.constants c.in-Ok.after.now (λ i. omega (arith, c.type_inv.bytes i)) (sym c.in-Some.ensures) c.in-Ok.ensures c.requires (omega arith))
