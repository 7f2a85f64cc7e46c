use Rattle.std.proofs.Common.{List, take, subst}
use Rattle.class_index.specs.declared.outline.Outline.{Outline}
use Rattle.class_index.specs.Hierarchy.{names}
use Rattle.class_index.specs.Places.{IsPlaces, place_in}
use Rattle.class_index.specs.Supers.{missing_by}
use Rattle.class_index.specs.Faults.{IsMissingFault}
use Rattle.class_index.proofs.Built.{missing_fault}
use Rattle.class_index.proofs.index.indexed.Goals as goal

pub returns-in-Err-clause-fault : goal.returns-in-Err-clause-fault
returns-in-Err-clause-fault c =
    let find = place_in c.in_ok-places.places in
    let places : IsPlaces 0 (names c.args.all) find = subst (λ (xs : List Outline). IsPlaces 0 (names xs) find) c.as_slice.ensures c.in_ok-places.ensures in
    let fault : IsMissingFault (missing_by find c.args.own (take c.args.own c.args.all)) c.in-Err.fault =
    subst (λ (xs : List Outline). IsMissingFault (missing_by find c.args.own (take c.args.own xs)) c.in-Err.fault) c.as_slice-2.ensures c.in-Err.ensures.err in
    missing_fault c.args.own c.args.all find c.in-Err.fault c.requires.all places fault
