use Rattle.std.proofs.Common.{◌≡◌, ◌++◌, List, ℕ, ap, ◌∙◌}
use Rattle.class_model.specs.declared.attribute_forms.Attribute.{out-Attribute}
use Rattle.class_model.specs.Spelling as spelling
use Rattle.class_write.proofs.AttributeLemmas.{attribute_shaped, code_in_method}
use Rattle.class_write.proofs.attributes.AttributeWriterWriteItem.write.Goals as goal

pub put_content-requires : goal.put_content-requires
put_content-requires c =
    code_in_method c.args.self.now.pool.now c.args.self.now.stand.holder c.args.self.now.stand.descriptor.now c.args.self.now.stand.bare c.args.self.now.list.now c.args.number c.args.item.now (c.if-not-has_place.ensures c.args.self.now.stand.descriptor.now)

pub returns-clause-shaped : goal.returns-clause-shaped
returns-clause-shaped c =
    let content = spelling.content_by spelling.code_attribute (out-Attribute c.args.item.now) in
    let text : c.as_slice.result.now ≡ content = c.as_slice.ensures.value ∙ c.in_ok-put_content.ensures.ok ∙ ap (λ (l : List ℕ). l ++ content) c.new-content.ensures.items in
    attribute_shaped c.args.self.now.pool.now c.args.self.now.stand.holder c.args.self.now.stand.descriptor.now c.args.self.now.stand.bare c.args.self.now.list.now c.args.number c.args.item.now (c.if-not-has_place.ensures c.args.self.now.stand.descriptor.now)
    c.in_ok-put_content.ensures.shaped (rw (← text) c.in_ok-put_framed.ensures.short)
