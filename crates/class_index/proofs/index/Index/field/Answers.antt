use Rattle.std.proofs.Common.{◌≡◌, ◌<◌, length, get_or, refl, ◌∙◌, ap, List}
use Rattle.std.proofs.lemmas.Option.{slice_get_read}
use Rattle.class_index.specs.declared.outline.MemberOutline.{MemberOutline}
use Rattle.class_index.proofs.FactLemmas.{field_read, field_within}
use Rattle.class_index.proofs.index.Index.field.Goals as goal

pub bounds-as_slice-id : goal.bounds-as_slice-id
bounds-as_slice-id c = rw c.as_slice.ensures (field_within c.args.self.now c.args.id c.outline-class.result.now c.requires c.outline-class.ensures)

pub returns : goal.returns
returns c =
    let within : c.args.id.at < length c.outline-class.result.now.fields = field_within c.args.self.now c.args.id c.outline-class.result.now c.requires c.outline-class.ensures in
    let read : c.index-as_slice-id.result ≡ get_or c.outline-class.result.now.fields c.args.id.at c.index-as_slice-id.result =
    c.index-as_slice-id.is ∙ ap (λ (xs : List MemberOutline). get_or xs c.args.id.at c.index-as_slice-id.result) c.as_slice.ensures in
    field_read c.args.self.now c.args.id c.outline-class.result.now c.requires c.outline-class.ensures
    ∙ slice_get_read c.outline-class.result.now.fields (length c.outline-class.result.now.fields) c.args.id.at c.index-as_slice-id.result refl within read
