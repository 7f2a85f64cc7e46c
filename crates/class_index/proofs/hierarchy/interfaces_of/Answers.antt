use Rattle.std.proofs.Common.{◌++◌, take, sym, ◌∙◌, ap, arith}
use Rattle.std.specs.Option.{option_to_list}
use Rattle.std.specs.List.{filter_map}
use Rattle.class_index.specs.Places.{place_in}
use Rattle.class_index.proofs.Pushes.{place_more}
use Rattle.class_index.proofs.hierarchy.interfaces_of.Goals as goal

pub loop-name-preserved : goal.loop-name-preserved
loop-name-preserved c =
    let find = place_in c.args.places.now in
    c.in_ok-push_some.ensures ∙ ap (λ xs. xs ++ option_to_list c.place_named.result) c.loop-name.invariant
    ∙ ap (λ o. filter_map find (take c.loop-name.name-index c.args.interfaces.now) ++ option_to_list o) (c.place_named.ensures ∙ ap find c.as_slice.ensures)
    ∙ sym (place_more find c.args.interfaces.now c.loop-name.name-index c.name-item.result (omega arith) c.name-item.is)
