use Rattle.std.proofs.Common.{◌≡◌, ◌<◌, ◌+◌, ◌-◌, ℕ, [], length, drop, get_or, sym, ◌∙◌, subst, arith}
use Rattle.std.proofs.lemmas.List.{get_or-map, length-map}
use Rattle.class_index.specs.declared.outline.Outline.{Outline}
use Rattle.class_index.specs.Hierarchy.{names}
use Rattle.class_index.specs.Places.{IsPlaces, place_in}
use Rattle.class_index.proofs.PlaceLemmas.{places_more, entered}
use Rattle.class_index.proofs.hierarchy.places_of.Goals as goal

pub loop-at-preserved : goal.loop-at-preserved
loop-at-preserved c =
    let all = c.args.all.now in
    let at : ℕ = c.loop-at.at - 1 in
    let next : at + 1 ≡ c.loop-at.at = omega arith in
    let here : at < length all = omega arith in
    let within : at < length (names all) = omega (arith, here, length-map all (λ (o : Outline). o.name)) in
    let name : c.in_ok-name.name.items ≡ get_or (names all) at [] =
    c.in_ok-name.ensures.items ∙ c.as_slice.ensures.value ∙ sym (get_or-map (λ (o : Outline). o.name) all at c.index-all-at.result [] here) in
    let before : IsPlaces (at + 1) (drop (at + 1) (names all)) (place_in c.loop-at.places) =
    subst (λ (n : ℕ). IsPlaces n (drop n (names all)) (place_in c.loop-at.places)) (sym next) c.loop-at.invariant.1 in (
      omega arith,
      places_more (names all) at c.in_ok-name.name.items (place_in c.loop-at.places) (place_in c.insert.new.self) within name
          (entered c.in_ok-name.name.items c.loop-at.places c.insert.new.self at c.in_ok-insert.ensures.updates) before,
    )
