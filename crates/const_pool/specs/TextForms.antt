-- What the texts of a pool may be: names (JVMS 4.2) and descriptors (JVMS 4.3).
use Rattle.std.specs.Prelude.{◌≡◌, ℕ, false, List, map, Option, Some, None}
use Rattle.class_model.specs.declared.constant_pool.Constant.{Constant}
use Rattle.class_model.specs.declared.constant_pool.Pool.{Pool}
use Rattle.class_model.specs.ClassNames.{is_unqualified, is_method_name, is_class_name}
use Rattle.class_model.specs.Constants.{text_of, is_array_descriptor}
use Rattle.class_model.specs.Descriptors.{is_field_descriptor, is_return_descriptor, is_method_descriptor}
use Rattle.const_pool.specs.declared.text_forms.TextForms.{TextForms}
use Rattle.const_pool.specs.declared.text_forms.TextTable.{TextTable}

-- what a text may be
abbrev pub judged_text : List ℕ → TextForms
judged_text text = record {
  is_field_name = is_unqualified text;
  is_method_name = is_method_name text;
  is_class_name = is_class_name text;
  is_array = is_array_descriptor text;
  is_field_type = is_field_descriptor text;
  is_return_type = is_return_descriptor text;
  is_instance_type = is_method_descriptor 254 text;
  is_method_type = is_method_descriptor 255 text;
}

abbrev pub nothing : TextForms
nothing = record {
  is_field_name = false;
  is_method_name = false;
  is_class_name = false;
  is_array = false;
  is_field_type = false;
  is_return_type = false;
  is_instance_type = false;
  is_method_type = false;
}

abbrev pub judged_or_nothing : Option (List ℕ) → TextForms
judged_or_nothing None = nothing
judged_or_nothing (Some text) = judged_text text

abbrev pub judged_constant : Constant → TextForms
judged_constant constant = judged_or_nothing (text_of constant)

-- The table has what the text of each constant may be.
unfoldable pub IsTableOf : Pool → TextTable → Type 0
IsTableOf pool table = table.forms.items ≡ map judged_constant pool.constants
