-- What indices lead to.
use Rattle.std.specs.Prelude.{ℕ, Bool}
use Rattle.class_model.specs.declared.constant_pool.Pool.{Pool}
use Rattle.class_model.specs.Shape.{is_plain_class}
use Rattle.class_text.specs.Frames.{leads_to_class}
use Rattle.class_text.specs.Elements.{leads_to_text, leads_to_type, leads_to_result, leads_to_value_of}
use Rattle.class_text.specs.Attributes.{leads_to_caught, leads_to_handle, leads_to_loadable, leads_to_value_for}
use Rattle.class_text.specs.Classes.{leads_to_field_name, leads_to_method_name, leads_to_super}
use Rattle.class_read.specs.declared.targets.Target.{Target}
use Rattle.class_read.specs.declared.targets.Target.TheVariants as targets

-- whether a target stands at a number
abbrev pub leads_to : Pool → Target → ℕ → Bool
leads_to pool targets.Class = leads_to_class pool
leads_to pool targets.Caught = leads_to_caught pool
leads_to pool targets.PlainClass = is_plain_class pool
leads_to pool (targets.SuperOf this) = leads_to_super pool this
leads_to pool targets.Text = leads_to_text pool
leads_to pool targets.FieldName = leads_to_field_name pool
leads_to pool targets.MethodName = leads_to_method_name pool
leads_to pool targets.FieldType = leads_to_type pool
leads_to pool targets.ReturnType = leads_to_result pool
leads_to pool targets.Handle = leads_to_handle pool
leads_to pool targets.Loadable = leads_to_loadable pool
leads_to pool (targets.ValueOf tag) = leads_to_value_of pool tag
leads_to pool (targets.ValueFor descriptor) = leads_to_value_for pool descriptor.now
