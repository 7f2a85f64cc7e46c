-- Frames of methods that fit the shapes that verification gives (JVMS 2.6, 4.10.1).
use Rattle.std.specs.Prelude.{◌≡◌, true, List, reverse, find, Option, Some, option_to_list, Ok}
use Rattle.jvm_tables.specs.declared.code.Instr.{Instr}
use Rattle.jvm_tables.specs.declared.instruction.OpRow.{OpRow}
use Rattle.jvm_tables.specs.declared.instruction.ValueKind.{ValueKind}
use Rattle.class_model.specs.declared.class_file.Class.{Class}
use Rattle.class_model.specs.declared.class_file.Member.{Member}
use Rattle.class_model.specs.declared.identifiers.MemberRef.{MemberRef}
use Rattle.class_model.specs.Programs.{find_class}
use Rattle.class_code.specs.Codes.{CodeParts, code_in}
use Rattle.class_code.specs.Constants.{used, use_of}
use Rattle.class_verify.specs.declared.kinds.Kind.{Kind}
use Rattle.class_verify.specs.declared.shape.Shape.{Shape}
use Rattle.class_verify.specs.Bodies.{Body, HasShape}
use Rattle.class_verify.specs.Decoded.{decoded}
use Rattle.class_verify.specs.Kinds.{all_fit}
use Rattle.class_verify.specs.Places.{next_place}
use Rattle.class_verify.specs.Stacks.{below_values}
use Rattle.class_verify.specs.Verified.{body_of}
use Rattle.native_model.specs.Worlds.{NamedHeap}
use Rattle.jvm_model.specs.Programs.{is_method}
use Rattle.jvm_model.specs.States.{MethodFrame}
use Rattle.jvm_valid.specs.Values.{kinds_in, AreThere}

-- a method of the program that has code
pub record IsMethod (program : List Class) (method : MemberRef) (class : Class) (member : Member) (code : CodeParts) : Type 0 where
  pub owner : find_class method.owner program ≡ Some class
  pub found : find (is_method method class.pool) class.methods ≡ Some member
  pub has_code : code_in member.attributes ≡ Some code

-- A frame is of a method of the program and at the start of an instruction of its code; its locals fit what stands there,
-- and all that it refers to is in the heap.
pub record IsAt (program : List Class) (h : NamedHeap) (f : MethodFrame) (body : Body) (shape : Shape) : Type 0 where
  pub class : Class
  pub member : Member
  pub code : CodeParts
  pub method : IsMethod program f.method class member code
  pub same : body ≡ body_of class member code
  pub there : HasShape body f.pc shape
  pub locals : all_fit (kinds_in f.locals) shape.locals ≡ true
  pub limit : f.operands.limit ≡ body.limits.stack
  pub variables : AreThere h f.locals
  pub operands : AreThere h f.operands.slots

-- a frame before its instruction: its operands fit too
pub record StandsIn (program : List Class) (h : NamedHeap) (f : MethodFrame) : Type 0 where
  pub body : Body
  pub shape : Shape
  pub place : IsAt program h f body shape
  pub stack : all_fit (kinds_in f.operands.slots) shape.stack ≡ true

-- A frame amid its instruction, which has taken its operands and gives a value of a kind or none: what is left fits what is
-- below the operands, and the result comes before the next instruction.
pub record WaitsIn (program : List Class) (h : NamedHeap) (given : Option ValueKind) (f : MethodFrame) : Type 0 where
  pub body : Body
  pub shape : Shape
  pub place : IsAt program h f body shape
  pub instr : Instr
  pub row : OpRow
  pub decodes : decoded body.code f.pc ≡ Ok (instr, row)
  pub takes : List ValueKind
  pub uses : use_of body.class row instr ≡ Some (used takes (option_to_list given))
  pub rest : List Kind
  pub below : below_values (reverse takes) shape.stack ≡ Some rest
  pub stack : all_fit (kinds_in f.operands.slots) rest ≡ true
  pub next : next_place body.code f.pc ≡ Some f.next
