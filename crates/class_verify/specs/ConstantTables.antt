-- What the constants of a class say, as the code keeps it.
use Rattle.std.specs.Prelude.{◌≡◌, Bool, List, map, Some}
use Rattle.std.specs.List.{list_any}
use Rattle.class_model.specs.declared.attribute_forms.Bootstrap.{Bootstrap}
use Rattle.class_model.specs.declared.class_file.Class.{Class}
use Rattle.class_model.specs.declared.constant_pool.Pool.{Pool}
use Rattle.class_model.specs.Constants.{constant_at, is_some_that}
use Rattle.class_code.specs.Bootstraps.{arguments_if_known}
use Rattle.class_code.specs.Descriptors.{descriptors_of}
use Rattle.class_code.specs.Flags.{unknown_sites}
use Rattle.class_verify.specs.declared.constant_tables.ConstantTables.{ConstantTables}
use Rattle.class_verify.specs.Floats.{is_float_load, has_float_arguments}

-- a bootstrap method that is known has a float among its static arguments
abbrev pub has_float_entry : Pool → Bootstrap → Bool
has_float_entry pool b =
    list_any (λ n. is_some_that (is_float_load pool) (constant_at pool n)) (arguments_if_known pool (Some b))

-- of each constant whether it is a call site with floats among its static arguments
unfoldable pub float_arguments : Class → List Bool
float_arguments class = map (has_float_arguments class) class.pool.constants

pub record AreTables (class : Class) (tables : ConstantTables) : Type 0 where
  pub descriptors : tables.descriptors ≡ descriptors_of class.pool
  pub unknown_sites : tables.unknown_sites ≡ unknown_sites class
  pub float_arguments : tables.float_arguments ≡ float_arguments class
