use Rattle.std.proofs.Common.{length, sym, ap, ◌∙◌, arith}
use Rattle.class_text.specs.Reading.{IsBytes}
use Rattle.class_text.specs.Pool.{pool_at}
use Rattle.class_read.proofs.Depths.{gives_as}
use Rattle.class_read.proofs.Files.{pool_place, front_read, front_fails}
use Rattle.class_read.proofs.class_file.class_in.Goals as goal

pub returns-in-Ok : goal.returns-in-Ok
returns-in-Ok c =
    let file = c.args.file.now in
    let are : IsBytes file = λ i. omega (arith, c.type_inv.file i) in
    let there = pool_place file c.in_ok-minor.minor c.in_ok-minor.rest.now c.in_ok-major.major c.in_ok-major.rest.now c.offset_of.result are c.in_ok-minor.ensures c.in_ok-major.ensures c.offset_of.ensures in
    gives_as _ c.behind_pool_in.result _ _
    (front_read (length file) file c.in_ok-minor.minor c.in_ok-minor.rest.now c.in_ok-major.major c.in_ok-major.rest.now c.in-Ok.pool c.in-Ok.behind.now c.in_ok-minor.ensures c.in_ok-major.ensures (ap (pool_at (length file)) (sym there.0) ∙ c.in-Ok.ensures))
    c.behind_pool_in.ensures

pub returns-in-Err : goal.returns-in-Err
returns-in-Err c =
    let file = c.args.file.now in
    let are : IsBytes file = λ i. omega (arith, c.type_inv.file i) in
    let there = pool_place file c.in_ok-minor.minor c.in_ok-minor.rest.now c.in_ok-major.major c.in_ok-major.rest.now c.offset_of.result are c.in_ok-minor.ensures c.in_ok-major.ensures c.offset_of.ensures in
    front_fails (length file) file c.in_ok-minor.minor c.in_ok-minor.rest.now c.in_ok-major.major c.in_ok-major.rest.now _ c.in_ok-minor.ensures c.in_ok-major.ensures (rw there.0 at c.in-Err.ensures)
