use Rattle.std.proofs.Common.{◌≡◌, ◌++◌, List, ℕ, [], ap, ◌∙◌}
use Rattle.class_model.specs.declared.attribute_forms.Attribute.{out-Attribute}
use Rattle.class_model.specs.Spelling as spelling
use Rattle.class_write.proofs.AttributeLemmas.{code_attribute_shaped}
use Rattle.class_write.proofs.attributes.CodeAttributeWriterWriteItem.write.Goals as goal

pub returns-clause-shaped : goal.returns-clause-shaped
returns-clause-shaped c = λ code.
    let content = spelling.content_by spelling.no_attribute (out-Attribute c.args.item.now) in
    let text : c.as_slice.result.now ≡ content = c.as_slice.ensures.value ∙ c.in_ok-put_plain.ensures.ok ∙ ap (λ (l : List ℕ). l ++ content) c.new-content.ensures.items in
    code_attribute_shaped c.args.self.now.pool.now c.args.self.now.holder c.args.self.now.list.now c.args.number c.args.item.now code (c.if-not-has_place.ensures []) c.in_ok-put_plain.ensures.shaped
    (rw (← text) c.in_ok-put_framed.ensures.short)
