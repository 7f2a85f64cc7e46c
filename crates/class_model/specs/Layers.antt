-- One level of an attribute and of an annotation's value, as `out-Attribute` and `out-Element` open them.
use Rattle.class_model.specs.declared.attribute_forms.Attribute.{Attribute}
use Rattle.class_model.specs.declared.attribute_forms.Attribute.TheOpen.{Attribute-F}
use Rattle.class_model.specs.declared.annotation.Element.{Element}
use Rattle.class_model.specs.declared.annotation.Element.TheOpen.{Element-F}
use Rattle.class_model.specs.declared.annotation.Note.{Note}
use Rattle.class_model.specs.declared.annotation.Pair.{Pair}

abbrev pub AttributeLayer : Type 0
AttributeLayer = Attribute-F Attribute

abbrev pub ElementLayer : Type 0
ElementLayer = Element-F Element Note Pair
