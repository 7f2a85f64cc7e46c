use Rattle.std.proofs.Common.{◌≡◌, ◌<◌, length, get_or, sym, ◌∙◌, ap, List}
use Rattle.class_index.specs.declared.outline.Outline.{Outline}
use Rattle.class_index.proofs.Questions.{place_within, class_name_is}
use Rattle.class_index.proofs.index.Index.class_name.Goals as goal

pub bounds-as_slice-place : goal.bounds-as_slice-place
bounds-as_slice-place c =
    rw c.as_slice.ensures (place_within c.self.inside.own c.self.inside.all c.args.self.now c.args.class c.place-place.result c.self.invariant.classes c.self.view_is c.requires c.place-place.ensures)

pub returns : goal.returns
returns c =
    let within : c.place-place.result < length c.self.inside.all =
    place_within c.self.inside.own c.self.inside.all c.args.self.now c.args.class c.place-place.result c.self.invariant.classes c.self.view_is c.requires c.place-place.ensures in
    let read : c.index-as_slice-place.result ≡ get_or c.self.inside.all c.place-place.result c.index-as_slice-place.result =
    c.index-as_slice-place.is ∙ ap (λ (xs : List Outline). get_or xs c.place-place.result c.index-as_slice-place.result) c.as_slice.ensures in
    c.as_slice-2.ensures.value ∙ sym (ap (λ (o : Outline). o.name) c.index-as_slice-place.is)
    ∙ class_name_is c.self.inside.own c.self.inside.all c.args.self.now c.args.class c.place-place.result c.index-as_slice-place.result c.self.invariant.classes c.self.view_is c.place-place.ensures within read
