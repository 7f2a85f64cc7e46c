-- Verified methods, classes and programs.
use Rattle.std.specs.Prelude.{◌≡◌, ℕ, true, false, List, [], ◌∷◌, ◌++◌, map, All, Option, Some, None}
use Rattle.class_model.specs.declared.class_file.Class.{Class}
use Rattle.class_model.specs.declared.class_file.Member.{Member}
use Rattle.class_model.specs.declared.identifiers.MethodId.{MethodId}
use Rattle.class_model.specs.declared.stack_map.FrameType.{FrameType}
use Rattle.class_model.specs.Shape.{class_name, name_text, descriptor_text}
use Rattle.class_verify.specs.declared.cause.Cause.{Cause}
use Rattle.class_verify.specs.declared.cause.Cause.TheVariants as causes
use Rattle.class_verify.specs.declared.fault.VerifyFault.{VerifyFault}
use Rattle.class_verify.specs.declared.fault.VerifyFault.TheVariants as faults
use Rattle.class_verify.specs.declared.frames.Limits.{Limits}
use Rattle.class_verify.specs.Bodies.{Body}
use Rattle.class_verify.specs.Frames.{type_of, first_kinds, shape_of, frames_from}
use Rattle.class_verify.specs.Misfits.{BodyFits, IsFirstMisfit}
use Rattle.class_code.specs.Codes.{CodeParts, code_in, stack_map_in}
use Rattle.class_code.specs.Types.{result_kind, has_float}

abbrev pub limits_of : CodeParts → Limits
limits_of c = record { stack = c.max_stack; locals = c.max_locals }

-- the types of the locals as a method begins
abbrev pub first_types : Class → Member → List FrameType
first_types class m = map type_of (first_kinds m.flags (descriptor_text class.pool m))

-- the code of a method, as verification sees it
unfoldable pub body_of : Class → Member → CodeParts → Body
body_of class m c = record {
  class = class;
  result = result_kind (descriptor_text class.pool m);
  limits = limits_of c;
  code = c.code;
  table = c.table;
  first = shape_of (limits_of c) (first_types class m) [];
  frames = frames_from (limits_of c) 0 (first_types class m) (stack_map_in c.attributes);
}

-- Code of a method whose descriptor has no float or double, without a misfit; a method without code fits.
abbrev pub CodeFits : Class → Member → Option CodeParts → Type 0
CodeFits class m None = Unit {0}
CodeFits class m (Some c) = (has_float (descriptor_text class.pool m) ≡ false) × BodyFits (body_of class m c)

unfoldable pub MethodFits : Class → Member → Type 0
MethodFits class m = CodeFits class m (code_in m.attributes)

-- Every code of a class fits.
abbrev pub Fits : Class → Type 0
Fits class = All (MethodFits class) class.methods

-- A float or double in the descriptor of a method with code is looked at before its code.
pub data IsMethodMisfit (class : Class) (m : Member) : ℕ → Cause → Type 0 where
  in_descriptor : (c : CodeParts) → code_in m.attributes ≡ Some c → has_float (descriptor_text class.pool m) ≡ true → IsMethodMisfit class m 0 causes.FloatUsed
  in_code : (c : CodeParts) (pc : ℕ) (cause : Cause) → code_in m.attributes ≡ Some c → has_float (descriptor_text class.pool m) ≡ false → IsFirstMisfit (body_of class m c) pc cause → IsMethodMisfit class m pc cause

-- the method by its texts
pub record IsNamed (class : Class) (m : Member) (id : MethodId) : Type 0 where
  pub of_class : id.class ≡ class_name class
  pub name : id.name ≡ name_text class.pool m
  pub descriptor : id.descriptor ≡ descriptor_text class.pool m

abbrev pub fault_of : MethodId → ℕ → Cause → VerifyFault
fault_of id pc causes.FloatUsed = faults.FloatUsed id
fault_of id pc causes.BadCode = faults.BadCode id pc
fault_of id pc causes.BadJump = faults.BadJump id pc
fault_of id pc causes.UnknownBootstrap = faults.UnknownBootstrap id pc
fault_of id pc causes.BadFrame = faults.BadFrame id pc

-- the refusal for a misfit of a method
pub data IsRefusal (class : Class) (m : Member) (pc : ℕ) (cause : Cause) : VerifyFault → Type 0 where
  named : (id : MethodId) → IsNamed class m id → IsRefusal class m pc cause (fault_of id pc cause)
  memory : IsRefusal class m pc cause faults.Memory

-- the first of methods that doesn't fit, with its first misfit
pub record IsFirstIn (class : Class) (methods : List Member) (id : MethodId) (pc : ℕ) (cause : Cause) : Type 0 where
  pub front : List Member
  pub method : Member
  pub back : List Member
  pub order : methods ≡ front ++ (method ∷ back)
  pub before : All (MethodFits class) front
  pub named : IsNamed class method id
  pub misfit : IsMethodMisfit class method pc cause

-- what a refusal says of methods of a class
abbrev pub IsMisfitIn : Class → List Member → VerifyFault → Type 0
IsMisfitIn class methods (faults.FloatUsed id) = (pc : ℕ) × IsFirstIn class methods id pc causes.FloatUsed
IsMisfitIn class methods (faults.BadCode id pc) = IsFirstIn class methods id pc causes.BadCode
IsMisfitIn class methods (faults.BadJump id pc) = IsFirstIn class methods id pc causes.BadJump
IsMisfitIn class methods (faults.UnknownBootstrap id pc) = IsFirstIn class methods id pc causes.UnknownBootstrap
IsMisfitIn class methods (faults.BadFrame id pc) = IsFirstIn class methods id pc causes.BadFrame
IsMisfitIn class methods faults.Memory = Unit {0}

-- the first misfit of a class, with the first method that has one
abbrev pub IsMisfitOf : Class → VerifyFault → Type 0
IsMisfitOf class = IsMisfitIn class class.methods
