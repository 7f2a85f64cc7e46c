-- Calls, initialisers and lambdas (JVMS 6.5: invokestatic, getstatic, invokedynamic; 5.5).
use Rattle.std.specs.Prelude.{◌≡◌, pos, Bool, true, false, List, [], ◌∷◌, codes, bytes_eq, Option, Some, None, if◌then◌else◌}
use Rattle.class_model.specs.declared.identifiers.MemberRef.{MemberRef}
use Rattle.class_index.specs.Naming.{nowhere, own_method}
use Rattle.class_code.specs.Named as named
use Rattle.class_code.specs.Rows.{MethodRow, constant, lambda_made}
use Rattle.class_code.specs.Sites.{LambdaSite}
use Rattle.tree_value.specs.Values.{int}
use Rattle.jvm_model.specs.Plans.{Oracle, Level, code_of, resolve, resolve_field, select, select_special, below, class_of, layout_of, levels_of}
use Rattle.jvm_model.specs.Bodies.{body}
use Rattle.body_rows.specs.Samples.{with_numbers, bare, naming, member, main, static_method, no_files, task, gives}

-- a class with a `<clinit>` or without one
abbrev pub level : Bool → Level
level has_method = record {
  own = record {
    class = codes "X";
    fields = record { name = codes "f"; descriptor = codes "I"; constant = None } ∷ [];
    has_method = has_method;
  };
  interfaces = [];
}

-- a program whose class `X` has these methods by name, all of them static
abbrev pub named_row : List MethodRow → MemberRef → Option MethodRow
named_row [] method = None
named_row (row ∷ rows) method = if bytes_eq row.method.name method.name then Some row else named_row rows method

abbrev pub of_methods : Bool → List MethodRow → Oracle
of_methods has_method rows (code_of method) = named_row rows method
of_methods has_method rows (resolve method) = own_method method 8
of_methods has_method rows (resolve_field field) = Some (codes "X", true)
of_methods has_method rows (select method class) = nowhere
of_methods has_method rows (select_special caller method) = nowhere
of_methods has_method rows (below low high) = true
of_methods has_method rows (class_of name) = Some (record { flags = 0x0200; super_class = None; interfaces = []; has_default = false; fields = [] })
of_methods has_method rows (layout_of name) = None
of_methods has_method rows (levels_of name) = level has_method ∷ []

abbrev pub sum_to : MemberRef
sum_to = member (codes "X") (codes "s") (codes "(I)I")

-- static int s(int n) { if (n == 0) return 0; return n + s(n - 1); }
abbrev pub sum_row : MethodRow
sum_row =
    static_method sum_to 3 1
    (bare 0 0x1a ∷ with_numbers 1 0x9a (pos 5 ∷ []) ∷ bare 4 0x03 ∷ bare 5 0xac
    ∷ bare 6 0x1a ∷ bare 7 0x1a ∷ bare 8 0x04 ∷ bare 9 0x64 ∷ naming 10 0xb8 (constant (named.member 10 sum_to)) ∷ bare 13 0x60 ∷ bare 14 0xac ∷ [])
    []

-- return s(3);
abbrev pub of_three : MethodRow
of_three = static_method main 1 0 (bare 0 0x06 ∷ naming 1 0xb8 (constant (named.member 10 sum_to)) ∷ bare 4 0xac ∷ []) []

abbrev pub SumOfThree : Type 0
SumOfThree = body (of_methods false (of_three ∷ sum_row ∷ [])) no_files (task 40) [] ≡ gives (int (pos 6))

abbrev pub field : MemberRef
field = member (codes "X") (codes "f") (codes "I")

-- static { f = f + 3; }
abbrev pub initializer_row : MethodRow
initializer_row =
    static_method (member (codes "X") (codes "<clinit>") (codes "()V")) 2 0
    (naming 0 0xb2 (constant (named.member 9 field)) ∷ bare 3 0x06 ∷ bare 4 0x60 ∷ naming 5 0xb3 (constant (named.member 9 field)) ∷ bare 8 0xb1 ∷ [])
    []

-- return f + f;
abbrev pub of_field : MethodRow
of_field =
    static_method main 2 0
    (naming 0 0xb2 (constant (named.member 9 field)) ∷ naming 3 0xb2 (constant (named.member 9 field)) ∷ bare 6 0x60 ∷ bare 7 0xac ∷ [])
    []

abbrev pub InitialisedOnce : Type 0
InitialisedOnce = body (of_methods true (of_field ∷ initializer_row ∷ [])) no_files (task 9) [] ≡ gives (int (pos 6))

abbrev pub site : LambdaSite
site = record {
  method = codes "applyAsInt";
  descriptor = codes "(I)LF;";
  erased = codes "(I)I";
  implementing = record { kind = 6; tag = 10; member = member (codes "X") (codes "l") (codes "(II)I") };
  instantiated = codes "(I)I";
}

-- static int l(int a, int b) { return a - b; }
abbrev pub difference_row : MethodRow
difference_row =
    static_method (member (codes "X") (codes "l") (codes "(II)I")) 2 2 (bare 0 0x1a ∷ bare 1 0x1b ∷ bare 2 0x64 ∷ bare 3 0xac ∷ []) []

-- int a = 5; F f = b -> a - b; return f.applyAsInt(1);
abbrev pub of_lambda : MethodRow
of_lambda =
    static_method main 2 0
    (bare 0 0x08 ∷ naming 1 0xba (lambda_made site) ∷ bare 6 0x04
    ∷ naming 7 0xb9 (constant (named.member 11 (member (codes "F") (codes "applyAsInt") (codes "(I)I")))) ∷ bare 12 0xac ∷ [])
    []

-- the method of the interface is no static one
abbrev pub of_interface : List MethodRow → Oracle
of_interface rows (code_of method) = named_row rows method
of_interface rows (resolve method) = if bytes_eq method.owner (codes "F") then own_method method 0x0401 else own_method method 8
of_interface rows (resolve_field f) = None
of_interface rows (select method class) = nowhere
of_interface rows (select_special caller method) = nowhere
of_interface rows (below low high) = true
of_interface rows (class_of name) = Some (record { flags = 0x0200; super_class = None; interfaces = []; has_default = false; fields = [] })
of_interface rows (layout_of name) = None
of_interface rows (levels_of name) = level false ∷ []

abbrev pub LambdaGives : Type 0
LambdaGives = body (of_interface (of_lambda ∷ difference_row ∷ [])) no_files (task 9) [] ≡ gives (int (pos 4))
