use Rattle.out_store.specs.Names.{IsOf}
use Rattle.out_store.proofs.OpeningLaws.{loose_here, not_loose}
use Rattle.out_store.proofs.opening.is_loose.Goals as goal

pub returns-in-Some : goal.returns-in-Some
returns-in-Some c =
    let of : IsOf c.in-Some.task c.in-Some.number c.args.name.now = rw c.in-Some.is at c.in_ok-task.ensures.of in
    loose_here c.args.numbers.now c.in-Some.task c.in-Some.number c.args.name.now c.is_opening.result of c.is_opening.ensures

pub returns-in-None : goal.returns-in-None
returns-in-None c = not_loose c.args.numbers.now c.args.name.now (λ task number of. let found = rw c.in-None.is at c.in_ok-task.ensures.every task number of in cc (found))
