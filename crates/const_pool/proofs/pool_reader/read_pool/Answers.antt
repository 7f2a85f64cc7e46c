use Rattle.std.proofs.Common.{sym, ◌∙◌, ap, arith, length, drop}
use Rattle.class_text.specs.Reading.{IsBytes}
use Rattle.class_text.specs.Pool.{pool_at}
use Rattle.class_text.specs.Meanings.{IsMeantInPool}
use Rattle.class_text.proofs.PoolTells.{pool_meant}
use Rattle.const_pool.specs.Faults.{Fails}
use Rattle.const_pool.proofs.Faults.{never, said}
use Rattle.const_pool.proofs.Places.{read_found, read_only, again_there}
use Rattle.const_pool.proofs.pool_reader.read_pool.Goals as goal

pub returns-in-Ok-clause-found : goal.returns-in-Ok-clause-found
returns-in-Ok-clause-found c =
    let bytes = c.args.bytes.now in
    let are : IsBytes bytes = λ i. omega (arith, c.type_inv.bytes i) in
    read_found bytes c.args.at c.in-Ok.pool c.in-Ok.after.now c.offset_of.result are (ap (pool_at (length bytes)) (sym c.split_at.ensures.back) ∙ c.in-Ok.ensures) c.offset_of.ensures

pub returns-in-Ok-clause-only : goal.returns-in-Ok-clause-only
returns-in-Ok-clause-only c = λ q rest right spelled.
    let bytes = c.args.bytes.now in
    let are : IsBytes bytes = λ i. omega (arith, c.type_inv.bytes i) in
    read_only bytes c.args.at c.in-Ok.pool c.in-Ok.after.now c.offset_of.result q rest are (ap (pool_at (length bytes)) (sym c.split_at.ensures.back) ∙ c.in-Ok.ensures) c.offset_of.ensures right spelled

pub returns-in-Err-clause-only : goal.returns-in-Err-clause-only
returns-in-Err-clause-only c = λ q rest right spelled.
    let bytes = c.args.bytes.now in
    let fails : Fails c.in-Err.fault (pool_at (length bytes) (drop c.args.at bytes)) = rw (← c.split_at.ensures.back) c.in-Err.ensures in
    rw (never (pool_at (length bytes) (drop c.args.at bytes)) (q, rest) c.in-Err.fault (again_there bytes c.args.at q rest right spelled) fails) tt

pub returns-in-Err-clause-says : goal.returns-in-Err-clause-says
returns-in-Err-clause-says c =
    let bytes = c.args.bytes.now in
    let are : IsBytes bytes = λ i. omega (arith, c.type_inv.bytes i) in
    let fails : Fails c.in-Err.fault (pool_at (length bytes) (drop c.args.at bytes)) = rw (← c.split_at.ensures.back) c.in-Err.ensures in
    said (IsMeantInPool bytes c.args.at (length bytes)) c.in-Err.fault (pool_at (length bytes) (drop c.args.at bytes)) (λ f e. pool_meant bytes c.args.at f are c.requires.within e) fails
