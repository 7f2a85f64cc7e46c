-- The call sites of invokedynamic: lambdas and concatenations (JVMS 4.7.23, 6.5).
use Rattle.std.specs.Prelude.{ℕ, Bool, true, false, not, ◌&&◌, ◌||◌, ◌==◌, nat_le, List, [], ◌∷◌, ◌++◌, length, codes, bytes_eq, count_by, Option, Some, None, is_none, option_map, option_and_then, unwrap_or, if◌then◌else◌}
use Rattle.std.specs.List.{list_all}
use Rattle.jvm_tables.specs.declared.code.Instr.{Instr}
use Rattle.jvm_tables.specs.declared.instruction.OpRow.{OpRow}
use Rattle.jvm_tables.specs.declared.instruction.ConstantUse.{ConstantUse}
use Rattle.jvm_tables.specs.declared.instruction.ConstantUse.TheVariants as uses
use Rattle.jvm_tables.specs.declared.instruction.ValueKind.{ValueKind}
use Rattle.jvm_tables.specs.declared.instruction.ValueKind.TheVariants.{Int, Long, Reference}
use Rattle.class_model.specs.declared.attribute_forms.Bootstrap.{Bootstrap}
use Rattle.class_model.specs.declared.class_file.Class.{Class}
use Rattle.class_model.specs.declared.constant_pool.Pool.{Pool}
use Rattle.class_model.specs.declared.constant_pool.Constant.{Constant}
use Rattle.class_model.specs.declared.constant_pool.Constant.TheVariants as constants
use Rattle.class_model.specs.Constants.{constant_at, text_at, is_some_that}
use Rattle.class_model.specs.Descriptors.{FieldType, object, method_type}
use Rattle.class_code.specs.Types.{Signature, signature_of, gives, object_name, result_type}
use Rattle.class_code.specs.Constants.{constant_of, name_at, descriptor_at}
use Rattle.class_code.specs.Bootstraps.{bootstrap_at, metafactory, concatenating, is_bootstrap_by}
use Rattle.class_code.specs.Named.{HandleRef, handle_at, method_type_at}

-- A lambda's site. Its descriptor takes the captured values and gives the interface, whose method has a name and a
-- type; the implementing method; and the type that the interface's method has there.
pub record LambdaSite : Type 0 where
  pub method : List ℕ
  pub descriptor : List ℕ
  pub erased : List ℕ
  pub implementing : HandleRef
  pub instantiated : List ℕ

-- A concatenation's site: its descriptor takes the arguments; the recipe; and the numbers of its constants.
pub record ConcatenationSite : Type 0 where
  pub descriptor : List ℕ
  pub recipe : List ℕ
  pub constants : List ℕ

pub data Site : Type 0 where
  lambda : LambdaSite → Site
  concatenation : ConcatenationSite → Site

-- the types of the values that a lambda captures
abbrev pub captured : LambdaSite → List FieldType
captured l = unwrap_or (option_map (λ m. m.parameters) (method_type l.descriptor)) []

-- the class that a method's type gives, where it gives one that is no array
abbrev pub class_given : List ℕ → Option (List ℕ)
class_given descriptor = option_and_then (option_and_then object_name) (result_type descriptor)

-- the interface that a lambda has
abbrev pub interface : LambdaSite → Option (List ℕ)
interface l = class_given l.descriptor

abbrev pub lambda_with : List ℕ → List ℕ → Option (List ℕ) → Option HandleRef → Option (List ℕ) → Option LambdaSite
lambda_with method descriptor (Some erased) (Some implementing) (Some instantiated) =
    Some (record { method = method; descriptor = descriptor; erased = erased; implementing = implementing; instantiated = instantiated })
lambda_with method descriptor _ _ _ = None

-- a lambda by its three static arguments
abbrev pub lambda_by : Pool → List ℕ → List ℕ → List ℕ → Option LambdaSite
lambda_by pool method descriptor (a ∷ b ∷ c ∷ []) =
    lambda_with method descriptor (method_type_at pool a) (handle_at pool b) (method_type_at pool c)
lambda_by pool method descriptor _ = None

abbrev pub recipe_of : Pool → Constant → Option (List ℕ)
recipe_of pool (constants.Text text) = text_at pool text
recipe_of pool _ = None

abbrev pub concatenation_with : List ℕ → List ℕ → List ℕ → ConcatenationSite
concatenation_with descriptor numbers recipe = record { descriptor = descriptor; recipe = recipe; constants = numbers }

-- a concatenation by its static arguments, the recipe first
abbrev pub concatenation_by : Pool → List ℕ → List ℕ → Option ConcatenationSite
concatenation_by pool descriptor [] = None
concatenation_by pool descriptor (recipe ∷ others) =
    option_map (concatenation_with descriptor others) (option_and_then (recipe_of pool) (constant_at pool recipe))

-- a site by the bootstrap method, which is one of the two
abbrev pub site_by : Pool → List ℕ → List ℕ → Bootstrap → Option Site
site_by pool method descriptor b =
    if is_bootstrap_by pool metafactory b then option_map lambda (lambda_by pool method descriptor b.arguments)
    else if is_bootstrap_by pool concatenating b then option_map concatenation (concatenation_by pool descriptor b.arguments)
    else None

abbrev pub site_with : Pool → Option (List ℕ) → Option (List ℕ) → Option Bootstrap → Option Site
site_with pool (Some method) (Some descriptor) (Some b) = site_by pool method descriptor b
site_with pool _ _ _ = None

-- What the file says of a site by an entry of the table of bootstrap methods and a name and type, whether or not its
-- parts go together.
unfoldable pub written_site : Class → ℕ → ℕ → Option Site
written_site class bootstrap name_type =
    site_with class.pool (name_at class.pool name_type) (descriptor_at class.pool name_type) (bootstrap_at class bootstrap)

-- a method handle as the implementation of a lambda: its kind, and the type of its method
pub record Implementing : Type 0 where
  pub kind : ℕ
  pub method : Signature

-- The kinds that take a receiver are invokeVirtual, invokeSpecial and invokeInterface (JVMS 4.4.8).
abbrev pub takes_receiver : ℕ → Bool
takes_receiver kind = kind == 5 || kind == 7 || kind == 9

-- what a method that a handle of a kind invokes is given, the receiver first
abbrev pub wanted_by : ℕ → List ValueKind → List ValueKind
wanted_by kind takes = if takes_receiver kind then Reference ∷ takes else takes

abbrev pub wanted : Implementing → List ValueKind
wanted i = wanted_by i.kind i.method.takes

-- an int widens to a long, but no long narrows to an int
abbrev pub narrows : ValueKind → ValueKind → Bool
narrows Long Int = true
narrows _ _ = false

-- two lists of one length, in which each two kinds of one place pass the test
abbrev pub pairwise : (ValueKind → ValueKind → Bool) → List ValueKind → List ValueKind → Bool
pairwise test [] [] = true
pairwise test [] (k ∷ kinds) = false
pairwise test (j ∷ others) [] = false
pairwise test (j ∷ others) (k ∷ kinds) = test j k && pairwise test others kinds

-- as many values as are wanted, and none of them narrows
abbrev pub are_arguments : List ValueKind → List ValueKind → Bool
are_arguments values kinds = pairwise (λ v k. not (narrows v k)) values kinds

-- A result that is wanted comes from the method and doesn't narrow, or is the new object (JVMS 4.4.8, kind 8).
abbrev pub returns_to : ℕ → Option ValueKind → Option ValueKind → Bool
returns_to kind own None = true
returns_to kind None (Some k) = kind == 8
returns_to kind (Some v) (Some k) = kind == 8 || not (narrows v k)

abbrev pub is_kind : ValueKind → ValueKind → Bool
is_kind Int Int = true
is_kind Long Long = true
is_kind Reference Reference = true
is_kind _ _ = false

abbrev pub are_kinds : List ValueKind → List ValueKind → Bool
are_kinds kinds others = pairwise is_kind kinds others

-- both have no result, or results of one kind
abbrev pub are_results : Option ValueKind → Option ValueKind → Bool
are_results None None = true
are_results None (Some k) = false
are_results (Some j) None = false
are_results (Some j) (Some k) = is_kind j k

abbrev pub is_object : FieldType → Bool
is_object (object name) = true
is_object _ = false

abbrev pub is_string : FieldType → Bool
is_string (object name) = bytes_eq (codes "java/lang/String") name
is_string _ = false

-- the types of a lambda by their kinds
pub record LambdaKinds : Type 0 where
  pub site : Signature
  pub erased : Signature
  pub implementing : Implementing
  pub instantiated : Signature

unfoldable pub is_sound : LambdaKinds → Bool
is_sound l =
    is_some_that is_object l.site.returned
    && are_kinds l.erased.takes l.instantiated.takes
    && are_results (gives l.erased) (gives l.instantiated)
    && nat_le 5 l.implementing.kind && nat_le l.implementing.kind 9
    && are_arguments (l.site.takes ++ l.instantiated.takes) (wanted l.implementing)
    && returns_to l.implementing.kind (gives l.implementing.method) (gives l.instantiated)

abbrev pub implementing_by : ℕ → Signature → Implementing
implementing_by kind method = record { kind = kind; method = method }

abbrev pub kinds_with : Option Signature → Option Signature → Option Implementing → Option Signature → Option LambdaKinds
kinds_with (Some site) (Some erased) (Some implementing) (Some instantiated) =
    Some (record { site = site; erased = erased; implementing = implementing; instantiated = instantiated })
kinds_with _ _ _ _ = None

abbrev pub lambda_kinds : LambdaSite → Option LambdaKinds
lambda_kinds l =
    kinds_with (signature_of l.descriptor) (signature_of l.erased)
    (option_map (implementing_by l.implementing.kind) (signature_of l.implementing.member.descriptor))
    (signature_of l.instantiated)

-- what a constant of a concatenation may be
abbrev pub is_joined : Constant → Bool
is_joined (constants.Text text) = true
is_joined (constants.Integer n) = true
is_joined (constants.Long n) = true
is_joined _ = false

-- U+0001 stands in the recipe for each argument and U+0002 for each constant; in modified UTF-8 each is one byte
abbrev pub is_recipe : ℕ → ℕ → List ℕ → Bool
is_recipe arguments constants recipe =
    count_by (λ b. b == 1) recipe == arguments && count_by (λ b. b == 2) recipe == constants

abbrev pub is_joining : ConcatenationSite → Signature → Bool
is_joining c site = is_some_that is_string site.returned && is_recipe (length site.takes) (length c.constants) c.recipe

-- the parts of a site go together
abbrev pub is_sound_site : Pool → Site → Bool
is_sound_site pool (lambda l) = is_some_that is_sound (lambda_kinds l)
is_sound_site pool (concatenation c) =
    is_some_that (is_joining c) (signature_of c.descriptor)
    && list_all (λ n. is_some_that is_joined (constant_at pool n)) c.constants

abbrev pub if_sound : Pool → Option Site → Option Site
if_sound pool None = None
if_sound pool (Some site) = if is_sound_site pool site then Some site else None

-- the site by an entry of the table of bootstrap methods and a name and type, whose parts go together
unfoldable pub site_at : Class → ℕ → ℕ → Option Site
site_at class bootstrap name_type = if_sound class.pool (written_site class bootstrap name_type)

abbrev pub unknown_by : ConstantUse → Class → Constant → Bool
unknown_by uses.CallSite class (constants.InvokeDynamic bootstrap name_type) = is_none (site_at class bootstrap name_type)
unknown_by _ class _ = false

-- an invokedynamic that has no site
unfoldable pub has_unknown_site : Class → OpRow → Instr → Bool
has_unknown_site class row instr = is_some_that (unknown_by row.constant class) (constant_of class instr)
