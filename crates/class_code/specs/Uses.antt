-- What the code of a method uses, by the names in its row (JVMS 6.5, 4.4.8, 5.5).
use Rattle.std.specs.Prelude.{ℕ, Bool, true, false, ◌||◌, ◌==◌, List, [], ◌∷◌, ◌++◌, map, flat_map, filter_map, Option, Some, None, option_map, option_and_then, unwrap_or, if◌then◌else◌}
use Rattle.std.specs.Option.{option_to_list}
use Rattle.std.specs.List.{list_any}
use Rattle.jvm_tables.specs.declared.instruction.Operation.{Operation}
use Rattle.jvm_tables.specs.declared.instruction.Operation.TheVariants as operations
use Rattle.jvm_tables.specs.Opcodes.{row_of}
use Rattle.class_model.specs.declared.identifiers.MemberRef.{MemberRef}
use Rattle.class_model.specs.Constants.{is_array_descriptor}
use Rattle.class_model.specs.Descriptors.{FieldType, primitive, object, array, field_type, MethodType, method_type}
use Rattle.class_code.specs.Named.{HandleRef, Named, class, member}
use Rattle.class_code.specs.Rows.{Operand, nothing, constant, lambda_made, concatenated, Line, Catch, MethodRow}
use Rattle.class_code.specs.Sites.{LambdaSite, interface}

-- a member by how it is called or read, a class that is made or mentioned, and the text of an object
pub data Usage : Type 0 where
  static_call : MemberRef → Usage
  special_call : MemberRef → Usage
  virtual_call : MemberRef → Usage
  static_field : MemberRef → Usage
  instance_field : MemberRef → Usage
  made : List ℕ → Usage
  mentioned : List ℕ → Usage
  object_text : Usage

-- the class that a type is of, or its elements are
abbrev pub class_of_type : FieldType → Option (List ℕ)
class_of_type (primitive letter) = None
class_of_type (object name) = Some name
class_of_type (array component) = class_of_type component

-- a class by its name, which for an array is its descriptor and stands for the class of the elements
abbrev pub class_named : List ℕ → List (List ℕ)
class_named name =
    if is_array_descriptor name then option_to_list (option_and_then class_of_type (field_type name)) else name ∷ []

abbrev pub mentions : List ℕ → List Usage
mentions name = map mentioned (class_named name)

-- the classes of a method's type
abbrev pub types_of : MethodType → List FieldType
types_of m = m.parameters ++ option_to_list m.returned

abbrev pub classes_in : List ℕ → List (List ℕ)
classes_in descriptor = unwrap_or (option_map (λ m. filter_map class_of_type (types_of m)) (method_type descriptor)) []

-- JVMS 4.4.8: the kinds 5 and 9 call by the receiver's class, 6 a static method, 7 and 8 as invokespecial does
abbrev pub call_of : HandleRef → Usage
call_of h =
    if h.kind == 6 then static_call h.member
    else if h.kind == 7 || h.kind == 8 then special_call h.member
    else virtual_call h.member

-- the kind 8 makes an object too
abbrev pub made_by : HandleRef → List Usage
made_by h = if h.kind == 8 then made h.member.owner ∷ [] else []

-- A lambda uses its implementing method, and mentions the interface, that method's class and the classes of the
-- instantiated type.
abbrev pub of_lambda : LambdaSite → List Usage
of_lambda l =
    call_of l.implementing ∷ made_by l.implementing
    ++ flat_map mentions (option_to_list (interface l))
    ++ mentions l.implementing.member.owner
    ++ map mentioned (classes_in l.instantiated)

abbrev pub is_reference_type : FieldType → Bool
is_reference_type (primitive letter) = false
is_reference_type _ = true

abbrev pub takes_reference : List ℕ → Bool
takes_reference descriptor = unwrap_or (option_map (λ m. list_any is_reference_type m.parameters) (method_type descriptor)) false

-- A concatenation makes a text of each argument that is a reference.
abbrev pub of_concatenation : List ℕ → List Usage
of_concatenation descriptor = if takes_reference descriptor then object_text ∷ [] else []

abbrev pub member_used : Operation → MemberRef → List Usage
member_used operations.GetStatic m = static_field m ∷ []
member_used operations.PutStatic m = static_field m ∷ []
member_used operations.GetField m = instance_field m ∷ []
member_used operations.PutField m = instance_field m ∷ []
member_used operations.InvokeStatic m = static_call m ∷ []
member_used operations.InvokeSpecial m = special_call m ∷ []
member_used operations.InvokeVirtual m = virtual_call m ∷ []
member_used operations.InvokeInterface m = virtual_call m ∷ []
member_used _ m = []

abbrev pub class_used : Operation → List ℕ → List Usage
class_used operations.New name = made name ∷ []
class_used _ name = []

abbrev pub of_constant : Operation → Named → List Usage
of_constant operation (member tag m) = member_used operation m ++ mentions m.owner
of_constant operation (class name) = class_used operation name ++ mentions name
of_constant operation _ = []

abbrev pub of_operand : Operation → Operand → List Usage
of_operand operation nothing = []
of_operand operation (constant c) = of_constant operation c
of_operand operation (lambda_made l) = of_lambda l
of_operand operation (concatenated descriptor recipe constants) = of_concatenation descriptor

abbrev pub of_line : Line → List Usage
of_line line = unwrap_or (option_map (λ row. of_operand row.operation line.operand) (row_of line.op)) []

abbrev pub of_catch : Catch → List Usage
of_catch c = flat_map mentions (option_to_list c.class)

-- What a row names. It is found in the row alone, so equal rows use the same.
unfoldable pub uses : MethodRow → List Usage
uses row = flat_map of_line row.lines ++ flat_map of_catch row.catches
