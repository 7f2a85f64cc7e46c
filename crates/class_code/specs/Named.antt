-- Constants by what they name, without numbers of the pool (JVMS 4.4).
use Rattle.std.specs.Prelude.{ℕ, List, Option, Some, None, option_map, option_and_then}
use Rattle.class_model.specs.declared.constant_pool.Pool.{Pool}
use Rattle.class_model.specs.declared.constant_pool.Constant.{Constant}
use Rattle.class_model.specs.declared.constant_pool.Constant.TheVariants as constants
use Rattle.class_model.specs.declared.identifiers.MemberRef.{MemberRef}
use Rattle.class_model.specs.Constants.{constant_at, text_at, class_at}
use Rattle.class_code.specs.Constants.{name_at, descriptor_at}

-- a method handle: its kind, and its member with the tag of that (JVMS 4.4.8)
pub record HandleRef : Type 0 where
  pub kind : ℕ
  pub tag : ℕ
  pub member : MemberRef

-- A constant that instructions and call sites may name. Numbers are by their bits; a member has its tag.
pub data Named : Type 0 where
  int : ℕ → Named
  float : ℕ → Named
  long : ℕ → Named
  double : ℕ → Named
  text : List ℕ → Named
  class : List ℕ → Named
  method_type : List ℕ → Named
  member : ℕ → MemberRef → Named
  handle : HandleRef → Named

abbrev pub member_with : Option (List ℕ) → Option (List ℕ) → Option (List ℕ) → Option MemberRef
member_with (Some owner) (Some name) (Some descriptor) = Some (record { owner = owner; name = name; descriptor = descriptor })
member_with _ _ _ = None

-- the member of a class and a name and type of these numbers (JVMS 4.4.2, 4.4.6)
abbrev pub member_by : Pool → ℕ → ℕ → Option MemberRef
member_by pool owner name_type = member_with (class_at pool owner) (name_at pool name_type) (descriptor_at pool name_type)

abbrev pub handle_with : ℕ → ℕ → MemberRef → HandleRef
handle_with kind tag m = record { kind = kind; tag = tag; member = m }

abbrev pub handle_to : Pool → ℕ → Constant → Option HandleRef
handle_to pool kind (constants.Ref tag owner name_type) = option_map (handle_with kind tag) (member_by pool owner name_type)
handle_to pool kind _ = None

abbrev pub handle_of : Pool → Constant → Option HandleRef
handle_of pool (constants.Handle kind reference) = option_and_then (handle_to pool kind) (constant_at pool reference)
handle_of pool _ = None

-- the method handle of a number
unfoldable pub handle_at : Pool → ℕ → Option HandleRef
handle_at pool n = option_and_then (handle_of pool) (constant_at pool n)

abbrev pub method_type_of : Pool → Constant → Option (List ℕ)
method_type_of pool (constants.MethodType descriptor) = text_at pool descriptor
method_type_of pool _ = None

-- the descriptor of the method type of a number (JVMS 4.4.9)
unfoldable pub method_type_at : Pool → ℕ → Option (List ℕ)
method_type_at pool n = option_and_then (method_type_of pool) (constant_at pool n)

-- constants whose name is one text
abbrev pub with_text : Pool → Constant → Option Named
with_text pool (constants.Text n) = option_map text (text_at pool n)
with_text pool (constants.Class n) = option_map class (text_at pool n)
with_text pool (constants.MethodType n) = option_map method_type (text_at pool n)
with_text pool _ = None

-- constants that name a member
abbrev pub with_member : Pool → Constant → Option Named
with_member pool (constants.Ref tag owner name_type) = option_map (member tag) (member_by pool owner name_type)
with_member pool (constants.Handle kind reference) = option_map handle (option_and_then (handle_to pool kind) (constant_at pool reference))
with_member pool _ = None

abbrev pub named_of : Pool → Constant → Option Named
named_of pool (constants.Integer n) = Some (int n)
named_of pool (constants.Float n) = Some (float n)
named_of pool (constants.Long n) = Some (long n)
named_of pool (constants.Double n) = Some (double n)
named_of pool (constants.Text n) = with_text pool (constants.Text n)
named_of pool (constants.Class n) = with_text pool (constants.Class n)
named_of pool (constants.MethodType n) = with_text pool (constants.MethodType n)
named_of pool (constants.Ref tag owner name_type) = with_member pool (constants.Ref tag owner name_type)
named_of pool (constants.Handle kind reference) = with_member pool (constants.Handle kind reference)
named_of pool _ = None

-- the constant of a number by what it names
unfoldable pub named_at : Pool → ℕ → Option Named
named_at pool n = option_and_then (named_of pool) (constant_at pool n)
