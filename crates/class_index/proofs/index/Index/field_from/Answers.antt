use Rattle.std.proofs.Common.{◌≡◌, ℕ, List, [], length, sym, ◌∙◌, ap, subst, arith}
use Rattle.std.proofs.lemmas.List.{get_or_read}
use Rattle.place_graph.specs.Graphs.{edges_of, AreWithin}
use Rattle.class_index.proofs.index.Index.field_from.Goals as goal

pub first_field-requires-clause-places : goal.first_field-requires-clause-places
first_field-requires-clause-places c =
    let row : c.as_slice.result.now ≡ edges_of c.rows-rows.result.now c.args.place =
    c.as_slice.ensures ∙ get_or_read c.rows-rows.result.now c.args.place c.index-rows-place.result (omega (arith, c.requires, c.rows-rows.ensures.same)) c.index-rows-place.is [] in
    subst (λ (xs : List ℕ). AreWithin (length c.outlines-all.result.now) xs) (sym row)
    (subst (λ (n : ℕ). AreWithin n (edges_of c.rows-rows.result.now c.args.place)) (sym (ap length c.outlines-all.ensures.value)) (c.rows-rows.ensures.within c.args.place))
