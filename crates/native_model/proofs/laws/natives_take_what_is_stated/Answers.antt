use Rattle.std.proofs.Common.{refl}
use Rattle.jvm_tables.specs.Natives.{natives}
use Rattle.class_model.specs.Descriptors.{method_type, field_types_at, field_type_at, field_type, component_at}
use Rattle.class_model.specs.ClassNames.{is_class_name, is_unqualified}
use Rattle.native_model.specs.Table.{cases}
use Rattle.native_model.proofs.laws.natives_take_what_is_stated.Goals as goal

pub returns : goal.returns
unfolding cases natives method_type field_types_at field_type_at field_type component_at is_class_name is_unqualified
returns c = refl
