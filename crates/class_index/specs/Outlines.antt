-- What of a class its hierarchy is made of.
use Rattle.std.specs.Prelude.{ℕ, ◌+◌, [], All, IfSome, map, filter_map, if◌then◌else◌}
use Rattle.class_model.specs.declared.class_file.Class.{Class}
use Rattle.class_model.specs.declared.class_file.Member.{Member}
use Rattle.class_model.specs.declared.constant_pool.Pool.{Pool}
use Rattle.class_model.specs.Constants.{class_at}
use Rattle.class_model.specs.ModifiedUtf8.{IsName}
use Rattle.class_model.specs.Shape.{class_name, name_text, descriptor_text}
use Rattle.jvm_tables.specs.Externals.{External}
use Rattle.class_index.specs.declared.outline.Outline.{Outline}
use Rattle.class_index.specs.declared.outline.MemberOutline.{MemberOutline}

abbrev pub member_outline : Pool → Member → MemberOutline
member_outline pool m = record { name = name_text pool m; descriptor = descriptor_text pool m; flags = m.flags }

abbrev pub outline : Class → Outline
outline c =
    record {
      name = class_name c;
      super_class = class_at c.pool c.super_class;
      interfaces = filter_map (class_at c.pool) c.interfaces;
      flags = c.flags;
      fields = map (member_outline c.pool) c.fields;
      methods = map (member_outline c.pool) c.methods;
    }

-- ACC_INTERFACE, JVMS 4.1
abbrev pub interface_flag : ℕ
interface_flag = 0x0200

-- ACC_ABSTRACT, JVMS 4.1
abbrev pub abstract_flag : ℕ
abstract_flag = 0x0400

-- Of an external class it is known whether it is an interface and whether it is abstract.
abbrev pub outer_flags : External → ℕ
outer_flags row = (if row.is_interface then interface_flag else 0) + (if row.is_abstract then abstract_flag else 0)

-- The members of an external class are natives, which stand in their own table.
abbrev pub outer_outline : External → Outline
outer_outline row =
    record {
      name = row.class;
      super_class = row.super_class;
      interfaces = row.interfaces;
      flags = outer_flags row;
      fields = [];
      methods = [];
    }

-- the names in an external class's row are names
pub record HasNames (row : External) : Type 0 where
  pub class : IsName row.class
  pub super_class : IfSome row.super_class IsName
  pub interfaces : All IsName row.interfaces
