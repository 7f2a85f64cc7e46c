use Rattle.std.proofs.Common.{◌≡◌, ◌<◌, length, get_or, refl, rules, ◌∙◌, ap, List}
use Rattle.std.proofs.lemmas.Option.{slice_get_read}
use Rattle.class_index.specs.declared.outline.Outline.{Outline}
use Rattle.class_index.specs.Hierarchy.{all_of, place}
use Rattle.class_index.proofs.Questions.{id_within}
use Rattle.class_index.proofs.index.Index.outline.Goals as goal

pub bounds-outlines-place : goal.bounds-outlines-place
bounds-outlines-place c = rw (c.outlines.ensures.value, c.place-place.ensures) (id_within c.args.self.now c.args.class c.requires)

pub offset_bounds-outlines-place : goal.offset_bounds-outlines-place
offset_bounds-outlines-place c =
    let within : c.place-place.result < length c.outlines.result.now = rw (c.outlines.ensures.value, c.place-place.ensures) (id_within c.args.self.now c.args.class c.requires) in
    search rules

pub returns : goal.returns
returns c =
    let read : c.index-outlines-place.result ≡ get_or (all_of c.args.self.now) (place c.args.self.now c.args.class) c.index-outlines-place.result =
    c.index-outlines-place.is ∙ ap (λ (xs : List Outline). get_or xs c.place-place.result c.index-outlines-place.result) c.outlines.ensures.value
    ∙ ap (λ p. get_or (all_of c.args.self.now) p c.index-outlines-place.result) c.place-place.ensures in
    slice_get_read (all_of c.args.self.now) (length (all_of c.args.self.now)) (place c.args.self.now c.args.class) c.index-outlines-place.result refl
    (id_within c.args.self.now c.args.class c.requires) read
