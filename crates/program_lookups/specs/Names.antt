-- What the places of a program are called.
use Rattle.std.specs.Prelude.{ℕ, ◌+◌, ◌*◌, ◌==◌, nat_lt, Bool, List, [], length, map, slice_get, Option, Some, None, option_map, option_and_then, unwrap_or, if◌then◌else◌}
use Rattle.jvm_tables.specs.Externals.{externals}
use Rattle.class_model.specs.declared.class_file.Class.{Class}
use Rattle.class_model.specs.declared.class_file.Member.{Member}
use Rattle.class_model.specs.declared.constant_pool.Constant.{Constant}
use Rattle.class_model.specs.declared.constant_pool.Constant.TheVariants as constants
use Rattle.class_model.specs.declared.identifiers.ClassId.{ClassId}
use Rattle.class_model.specs.declared.identifiers.ClassId.TheVariants.{Own, Outer}
use Rattle.class_model.specs.declared.identifiers.MemberId.{MemberId}
use Rattle.class_model.specs.declared.identifiers.SiteId.{SiteId}
use Rattle.class_model.specs.declared.identifiers.MemberRef.{MemberRef}
use Rattle.class_model.specs.Constants.{constant_at}
use Rattle.class_index.specs.declared.outline.Outline.{Outline}
use Rattle.class_index.specs.declared.select.Selected.{Selected}
use Rattle.class_index.specs.declared.select.Selected.TheVariants as selected
use Rattle.class_index.specs.Outlines.{outline}
use Rattle.class_index.specs.Declarations.{Declaration, method_at, IsMethodId}
use Rattle.class_index.specs.Naming.{reference}
use Rattle.class_index.specs.Subtyping.{class_name}
use Rattle.class_code.specs.Codes.{code_in, CodeParts}
use Rattle.class_code.specs.Sites.{Site, LambdaSite, lambda, written_site}
use Rattle.native_model.specs.Worlds.{Origin}

-- a class of the program, or a row of the table of external classes
abbrev pub is_class : List Outline → ClassId → Bool
is_class classes (Own at) = nat_lt at (length classes)
is_class classes (Outer row) = nat_lt row (length externals)

-- the name of a class, and none of what is no class
abbrev pub name_of : List Outline → ClassId → List ℕ
name_of classes class = if is_class classes class then class_name classes class else []

abbrev pub no_method : MemberRef
no_method = reference [] [] []

abbrev pub declared_by : List Outline → ClassId → Declaration → MemberRef
declared_by classes class m = reference (class_name classes class) m.name m.descriptor

-- a method by the class that declares it, its name and its descriptor
abbrev pub method_name : List Outline → MemberId → MemberRef
method_name classes id = unwrap_or (option_map (declared_by classes id.class) (method_at classes id)) no_method

-- what is selected is a method that is there
abbrev pub IsThere : List Outline → Selected → Type 0
IsThere classes (selected.Found id) = IsMethodId classes id
IsThere classes _ = Unit {0}

abbrev pub AreThere : List Outline → Option Selected → Type 0
AreThere classes None = Unit {0}
AreThere classes (Some s) = IsThere classes s

-- lambda sites

abbrev pub class_at : List Class → ClassId → Option Class
class_at files (Own at) = slice_get files at
class_at files (Outer row) = None

abbrev pub method_in : ℕ → Class → Option Member
method_in at c = slice_get c.methods at

-- the opcode of invokedynamic (JVMS 6.5)
abbrev pub invokedynamic : ℕ
invokedynamic = 186

abbrev pub number_by : Option ℕ → Option ℕ → Option ℕ
number_by (Some high) (Some low) = Some (high * 256 + low)
number_by _ _ = None

-- the number of the constant of an invokedynamic at a pc: the two bytes behind its opcode
abbrev pub dynamic_by : List ℕ → ℕ → Option ℕ → Option ℕ
dynamic_by code pc None = None
dynamic_by code pc (Some opcode) =
    if opcode == invokedynamic then number_by (slice_get code (pc + 1)) (slice_get code (pc + 2)) else None

abbrev pub dynamic_at : ℕ → CodeParts → Option ℕ
dynamic_at pc parts = dynamic_by parts.code pc (slice_get parts.code pc)

abbrev pub site_of : Class → Constant → Option Site
site_of c (constants.InvokeDynamic bootstrap name_type) = written_site c bootstrap name_type
site_of c _ = None

abbrev pub lambda_of : Site → Option LambdaSite
lambda_of (lambda l) = Some l
lambda_of _ = None

abbrev pub lambda_at : ℕ → Class → Member → Option LambdaSite
lambda_at pc c m =
    option_and_then lambda_of
    (option_and_then (site_of c) (option_and_then (constant_at c.pool) (option_and_then (dynamic_at pc) (code_in m.attributes))))

abbrev pub lambda_in : SiteId → Class → Option LambdaSite
lambda_in site c = option_and_then (lambda_at site.pc c) (method_in site.method.at c)

abbrev pub no_lambda : LambdaSite
no_lambda = record {
  method = [];
  descriptor = [];
  erased = [];
  implementing = record { kind = 0; tag = 0; member = no_method };
  instantiated = [];
}

-- the lambda site at a pc of a method, and the class in whose code it stands
abbrev pub origin_of : List Class → SiteId → Origin
origin_of files site = record {
  caller = name_of (map outline files) site.method.class;
  site = unwrap_or (option_and_then (lambda_in site) (class_at files site.method.class)) no_lambda;
}
