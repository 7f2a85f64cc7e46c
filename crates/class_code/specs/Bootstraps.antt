-- Bootstrap methods that are known (JVMS 4.7.23; the methods are those of java.lang.invoke).
use Rattle.std.specs.Prelude.{ℕ, Bool, false, ◌&&◌, ◌||◌, ◌==◌, List, [], ◌∷◌, codes, bytes_eq, Option, Some, None, option_and_then, slice_get, unwrap_or, if◌then◌else◌}
use Rattle.class_model.specs.declared.attribute_forms.Attribute.{Attribute, out-Attribute}
use Rattle.class_model.specs.declared.attribute_forms.Attribute.TheOpen.{Attribute-F}
use Rattle.class_model.specs.declared.attribute_forms.Bootstrap.{Bootstrap}
use Rattle.class_model.specs.declared.class_file.Class.{Class}
use Rattle.class_model.specs.declared.constant_pool.Pool.{Pool}
use Rattle.class_model.specs.declared.constant_pool.Constant.{Constant}
use Rattle.class_model.specs.declared.constant_pool.Constant.TheVariants as constants
use Rattle.class_model.specs.Layers.{AttributeLayer}
use Rattle.class_model.specs.Constants.{method_tag, constant_at, class_at, is_some_that}
use Rattle.class_code.specs.Constants.{name_at, descriptor_at}

-- the table of bootstrap methods of a class, which has at most one (JVMS 4.7.23)
abbrev pub or_later : AttributeLayer → Option (List Bootstrap) → Option (List Bootstrap)
or_later (Attribute-F.Bootstrap name entries) later = Some entries
or_later _ later = later

abbrev pub table_in : List Attribute → Option (List Bootstrap)
table_in [] = None
table_in (a ∷ attributes) = or_later (out-Attribute a) (table_in attributes)

abbrev pub bootstraps_of : Class → List Bootstrap
bootstraps_of class = unwrap_or (table_in class.attributes) []

unfoldable pub bootstrap_at : Class → ℕ → Option Bootstrap
bootstrap_at class n = option_and_then (λ entries. slice_get entries n) (table_in class.attributes)

-- a method by its class, its name and its descriptor
pub record Method : Type 0 where
  pub class : List ℕ
  pub name : List ℕ
  pub descriptor : List ℕ

abbrev pub metafactory : Method
metafactory = record {
  class = codes "java/lang/invoke/LambdaMetafactory";
  name = codes "metafactory";
  descriptor = codes "(Ljava/lang/invoke/MethodHandles$Lookup;Ljava/lang/String;Ljava/lang/invoke/MethodType;Ljava/lang/invoke/MethodType;Ljava/lang/invoke/MethodHandle;Ljava/lang/invoke/MethodType;)Ljava/lang/invoke/CallSite;";
}

abbrev pub concatenating : Method
concatenating = record {
  class = codes "java/lang/invoke/StringConcatFactory";
  name = codes "makeConcatWithConstants";
  descriptor = codes "(Ljava/lang/invoke/MethodHandles$Lookup;Ljava/lang/String;Ljava/lang/invoke/MethodType;Ljava/lang/String;[Ljava/lang/Object;)Ljava/lang/invoke/CallSite;";
}

-- the constant is a Methodref of this method
abbrev pub names_method : Pool → Method → Constant → Bool
names_method pool m (constants.Ref tag class name_type) =
    tag == method_tag
    && is_some_that (bytes_eq m.class) (class_at pool class)
    && is_some_that (bytes_eq m.name) (name_at pool name_type)
    && is_some_that (bytes_eq m.descriptor) (descriptor_at pool name_type)
names_method pool m _ = false

-- the constant is a method handle that invokes this static method (JVMS 4.4.8, kind 6)
abbrev pub invokes : Pool → Method → Constant → Bool
invokes pool m (constants.Handle kind reference) = kind == 6 && is_some_that (names_method pool m) (constant_at pool reference)
invokes pool m _ = false

unfoldable pub is_bootstrap_by : Pool → Method → Bootstrap → Bool
is_bootstrap_by pool m b = is_some_that (invokes pool m) (constant_at pool b.handle)

-- the static arguments of a bootstrap method, where it is one of the two
abbrev pub arguments_if_known : Pool → Option Bootstrap → List ℕ
arguments_if_known pool None = []
arguments_if_known pool (Some b) =
    if is_bootstrap_by pool metafactory b || is_bootstrap_by pool concatenating b then b.arguments else []

unfoldable pub known_arguments : Class → ℕ → List ℕ
known_arguments class bootstrap = arguments_if_known class.pool (bootstrap_at class bootstrap)
