-- The Code of a method and its stack map (JVMS 4.7.3, 4.7.4).
use Rattle.std.specs.Prelude.{ℕ, List, [], ◌∷◌, Option, Some, None}
use Rattle.class_model.specs.declared.attribute_forms.Attribute.{Attribute, out-Attribute}
use Rattle.class_model.specs.declared.attribute_forms.Attribute.TheOpen.{Attribute-F}
use Rattle.class_model.specs.declared.attribute_forms.Handler.{Handler}
use Rattle.class_model.specs.declared.stack_map.StackFrame.{StackFrame}
use Rattle.class_model.specs.Layers.{AttributeLayer}
use Rattle.class_code.specs.declared.code.CodeView as views

-- the parts of a Code attribute (JVMS 4.7.3)
pub record CodeParts : Type 0 where
  pub max_stack : ℕ
  pub max_locals : ℕ
  pub code : List ℕ
  pub table : List Handler
  pub attributes : List Attribute

abbrev pub code_or : AttributeLayer → Option CodeParts → Option CodeParts
code_or (Attribute-F.Code name max_stack max_locals code table attributes) later =
    Some (record { max_stack = max_stack; max_locals = max_locals; code = code; table = table; attributes = attributes })
code_or _ later = later

-- the code among attributes, which have at most one
unfoldable pub code_in : List Attribute → Option CodeParts
code_in [] = None
code_in (a ∷ attributes) = code_or (out-Attribute a) (code_in attributes)

abbrev pub frames_or : AttributeLayer → List StackFrame → List StackFrame
frames_or (Attribute-F.StackMap name frames) later = frames
frames_or _ later = later

-- the frames of the stack map among attributes, which have at most one
unfoldable pub stack_map_in : List Attribute → List StackFrame
stack_map_in [] = []
stack_map_in (a ∷ attributes) = frames_or (out-Attribute a) (stack_map_in attributes)

-- what the code keeps of it
abbrev pub parts : views.CodeView → CodeParts
parts v = record {
  max_stack = v.max_stack;
  max_locals = v.max_locals;
  code = v.code.now;
  table = v.table.now;
  attributes = v.attributes.now;
}
