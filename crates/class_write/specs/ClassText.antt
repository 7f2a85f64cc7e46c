-- The text and the shape of a class in three parts (JVMS 4.1).
use Rattle.std.specs.Prelude.{ℕ, ◌++◌, ◌^◌, ◌<◌, ◌≤◌, List, IsTrue}
use Rattle.class_model.specs.declared.class_file.Class.{Class}
use Rattle.class_model.specs.Constants.{IsPool}
use Rattle.class_model.specs.Shape.{is_plain_class, has_super}
use Rattle.class_model.specs.Spelling as spelling

abbrev pub version : Class → List ℕ
version c = spelling.u4 spelling.magic ++ spelling.u2 c.minor ++ spelling.u2 c.major

abbrev pub names : Class → List ℕ
names c = spelling.u2 c.flags ++ spelling.u2 c.this_class ++ spelling.u2 c.super_class

abbrev pub lists : Class → List ℕ
lists c =
    spelling.counted spelling.u2 c.interfaces ++ spelling.counted spelling.member c.fields ++ spelling.counted spelling.member c.methods
    ++ spelling.counted spelling.attribute c.attributes

-- what stands before the interfaces
pub record IsHead (c : Class) : Type 0 where
  pub minor : c.minor < 2 ^ 16
  pub oldest : 52 ≤ c.major
  pub newest : c.major ≤ 65
  pub pool : IsPool c.pool
  pub flags : c.flags < 2 ^ 16
  pub this_class : IsTrue (is_plain_class c.pool c.this_class)
  pub super_class : IsTrue (has_super c)
