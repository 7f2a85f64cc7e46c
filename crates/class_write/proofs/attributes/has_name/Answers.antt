use Rattle.class_model.specs.declared.attribute_forms.Attribute as attributes
use Rattle.class_write.proofs.attributes.has_name.Goals as goal

pub returns-in-StackMap : goal.returns-in-StackMap
unfolding attributes.out-Attribute denote.Hole.Carrier.out
returns-in-StackMap c = λ descriptor. rw c.in-StackMap.is c.is_named-in-StackMap.ensures

pub returns-in-ConstantValue : goal.returns-in-ConstantValue
unfolding attributes.out-Attribute denote.Hole.Carrier.out
returns-in-ConstantValue c = λ descriptor. rw c.in-ConstantValue.is c.is_named-in-ConstantValue.ensures
