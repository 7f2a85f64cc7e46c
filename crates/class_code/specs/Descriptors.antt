-- What the texts of a pool say as descriptors (JVMS 4.3).
use Rattle.std.specs.Prelude.{ℕ, List, map, Option, option_map, option_to_list}
use Rattle.class_model.specs.declared.constant_pool.Pool.{Pool}
use Rattle.class_model.specs.Constants.{text_of, is_some_that}
use Rattle.class_code.specs.declared.descriptors.CallKinds.{CallKinds}
use Rattle.class_code.specs.declared.descriptors.Told.{Told}
use Rattle.class_code.specs.Constants.{Use}
use Rattle.class_code.specs.Types.{Signature, signature_of, kind_of, gives, has_float}
use Rattle.class_code.specs.Sites.{is_object, is_string}

abbrev pub call_kinds : Signature → CallKinds
call_kinds s = record {
  takes = s.takes;
  gives = gives s;
  gives_object = is_some_that is_object s.returned;
  gives_string = is_some_that is_string s.returned;
}

-- what a method's descriptor says
abbrev pub call_of : List ℕ → Option CallKinds
call_of descriptor = option_map call_kinds (signature_of descriptor)

abbrev pub told_by : List ℕ → Told
told_by text = record { field = kind_of text; call = call_of text; has_float = has_float text }

-- a call takes its arguments and gives its result
abbrev pub use_of_call : CallKinds → Use
use_of_call call = record { takes = call.takes; gives = option_to_list call.gives }

-- of each constant, where it is a text
unfoldable pub descriptors_of : Pool → List (Option Told)
descriptors_of pool = map (λ c. option_map told_by (text_of c)) pool.constants
