-- What instructions of code that fits name by their constants (JVMS 6.5, 4.4.2, 4.4.10).
use Rattle.std.specs.Prelude.{◌≡◌, ℕ, ◌==◌, Bool, true, false, List, Contains, Some}
use Rattle.std.specs.List.{list_any}
use Rattle.jvm_tables.specs.declared.code.Instr.{Instr}
use Rattle.jvm_tables.specs.declared.instruction.ConstantUse.{ConstantUse}
use Rattle.jvm_tables.specs.declared.instruction.ConstantUse.TheVariants as uses
use Rattle.jvm_tables.specs.declared.instruction.OpRow.{OpRow}
use Rattle.jvm_tables.specs.declared.instruction.ValueKind.{ValueKind}
use Rattle.class_model.specs.declared.class_file.Class.{Class}
use Rattle.class_model.specs.declared.class_file.Member.{Member}
use Rattle.class_model.specs.declared.constant_pool.Constant.TheVariants as constants
use Rattle.class_model.specs.Shape.{descriptor_text}
use Rattle.class_code.specs.Codes.{CodeParts, code_in}
use Rattle.class_code.specs.Constants.{constant_of, descriptor_at, tags, field_use, call_use, said}
use Rattle.class_code.specs.Sites.{Site, site_at}
use Rattle.class_code.specs.Types.{Signature, kind_of, signature_of, has_float}
use Rattle.class_verify.specs.declared.shape.Shape.{Shape}
use Rattle.class_verify.specs.Bodies.{Body}
use Rattle.class_verify.specs.Laws.{IsSafe}
use Rattle.class_verify.specs.Misfits.{BodyFits}
use Rattle.class_verify.specs.Programs.{IsVerified}
use Rattle.class_verify.specs.Verified.{body_of}

-- a member with one of the tags that the instruction may name, and its descriptor
pub record NamesMember (class : Class) (row : OpRow) (instr : Instr) (descriptor : List ℕ) : Type 0 where
  pub tag : ℕ
  pub owner : ℕ
  pub name_type : ℕ
  pub constant : constant_of class instr ≡ Some (constants.Ref tag owner name_type)
  pub tagged : list_any (λ t. t == tag) (tags row.constant) ≡ true
  pub told : descriptor_at class.pool name_type ≡ Some descriptor

pub record NamesField (class : Class) (row : OpRow) (instr : Instr) : Type 0 where
  pub descriptor : List ℕ
  pub kind : ValueKind
  pub member : NamesMember class row instr descriptor
  pub type : kind_of descriptor ≡ Some kind
  pub values : said class row instr ≡ Some (field_use kind)

pub record NamesMethod (class : Class) (row : OpRow) (instr : Instr) : Type 0 where
  pub descriptor : List ℕ
  pub signature : Signature
  pub member : NamesMember class row instr descriptor
  pub type : signature_of descriptor ≡ Some signature
  pub values : said class row instr ≡ Some (call_use signature)

pub record NamesSite (class : Class) (row : OpRow) (instr : Instr) : Type 0 where
  pub bootstrap : ℕ
  pub name_type : ℕ
  pub site : Site
  pub descriptor : List ℕ
  pub signature : Signature
  pub constant : constant_of class instr ≡ Some (constants.InvokeDynamic bootstrap name_type)
  pub known : site_at class bootstrap name_type ≡ Some site
  pub told : descriptor_at class.pool name_type ≡ Some descriptor
  pub type : signature_of descriptor ≡ Some signature
  pub values : said class row instr ≡ Some (call_use signature)

abbrev pub names_method : ConstantUse → Bool
names_method uses.Method = true
names_method uses.AnyMethod = true
names_method uses.InterfaceMethod = true
names_method _ = false

abbrev pub EachFieldIsNamed : Type 0
EachFieldIsNamed =
    (body : Body) (pc : ℕ) (shape : Shape) (instr : Instr) (row : OpRow) (after : Shape) → IsSafe body pc shape instr row after
    → row.constant ≡ uses.Field → NamesField body.class row instr

abbrev pub EachMethodIsNamed : Type 0
EachMethodIsNamed =
    (body : Body) (pc : ℕ) (shape : Shape) (instr : Instr) (row : OpRow) (after : Shape) → IsSafe body pc shape instr row after
    → names_method row.constant ≡ true → NamesMethod body.class row instr

abbrev pub EachSiteIsNamed : Type 0
EachSiteIsNamed =
    (body : Body) (pc : ℕ) (shape : Shape) (instr : Instr) (row : OpRow) (after : Shape) → IsSafe body pc shape instr row after
    → row.constant ≡ uses.CallSite → NamesSite body.class row instr

-- Each method of a verified program that has code has a body that fits, and no float in its descriptor.
abbrev pub EachMethodFits : Type 0
EachMethodFits =
    (classes : List Class) (class : Class) (m : Member) (c : CodeParts) → IsVerified classes → Contains classes class → Contains class.methods m
    → code_in m.attributes ≡ Some c → (has_float (descriptor_text class.pool m) ≡ false) × BodyFits (body_of class m c)
