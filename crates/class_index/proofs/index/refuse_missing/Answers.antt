use Rattle.std.proofs.Common.{◌≡◌, Some, None, take, sym, ◌∙◌, ap, subst}
use Rattle.class_index.specs.Places.{place_in}
use Rattle.class_index.specs.Least.{IsIn, IsLeast, least_from}
use Rattle.class_index.specs.Supers.{missing_by}
use Rattle.class_index.proofs.Leasts.{least_is, least_none}
use Rattle.class_index.proofs.index.refuse_missing.Goals as goal

pub returns-in_ok-copy_of-in-Some-clause-err : goal.returns-in_ok-copy_of-in-Some-clause-err
returns-in_ok-copy_of-in-Some-clause-err c =
    let find = place_in c.args.places.now in
    let found = missing_by find c.args.own (take c.args.own c.args.all.now) in
    let is : least_from None found ≡ Some c.in-Some.name.now =
    sym (c.in-Some.ensures ∙ ap (λ xs. least_from None (missing_by find c.args.own xs)) c.split_at.ensures.front) in
    subst (IsLeast (λ n. IsIn n found)) (sym c.in_ok-copy_of-in-Some.ensures) (least_is found c.in-Some.name.now is)

pub returns-in-None-clause-ok : goal.returns-in-None-clause-ok
returns-in-None-clause-ok c =
    let find = place_in c.args.places.now in
    least_none (missing_by find c.args.own (take c.args.own c.args.all.now))
    (sym (c.in-None.ensures ∙ ap (λ xs. least_from None (missing_by find c.args.own xs)) c.split_at.ensures.front))
