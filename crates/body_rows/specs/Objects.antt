-- Arrays, handlers and texts (JVMS 6.5: newarray, arraylength, iaload; 2.10).
use Rattle.std.specs.Prelude.{◌≡◌, pos, true, false, [], ◌∷◌, codes, Some, None}
use Rattle.class_model.specs.declared.identifiers.MemberRef.{MemberRef}
use Rattle.class_index.specs.Naming.{nowhere, outer_method, ClassFacts}
use Rattle.class_code.specs.Named as named
use Rattle.class_code.specs.Rows.{MethodRow, constant}
use Rattle.tree_value.specs.Values.{int}
use Rattle.jvm_model.specs.Plans.{Oracle, code_of, resolve, resolve_field, select, select_special, below, class_of, layout_of, levels_of}
use Rattle.jvm_model.specs.Bodies.{throws, body}
use Rattle.body_rows.specs.Samples.{with_numbers, bare, naming, member, main, static_method, no_files, task, ending, gives}

-- new int[3].length
abbrev pub ArrayLength : Type 0
ArrayLength =
    ending 4 (static_method main 1 0 (bare 0 0x06 ∷ with_numbers 1 0xbc (pos 10 ∷ []) ∷ bare 3 0xbe ∷ bare 4 0xac ∷ []) []) ≡ gives (int (pos 3))

-- new int[-1]
abbrev pub NegativeSize : Type 0
NegativeSize =
    ending 4 (static_method main 1 0 (bare 0 0x02 ∷ with_numbers 1 0xbc (pos 10 ∷ []) ∷ bare 3 0xbe ∷ bare 4 0xac ∷ []) [])
    ≡ Some (throws (codes "java/lang/NegativeArraySizeException") (Some (codes "-1")) [])

-- try { return 5 / 0; } catch (ArithmeticException e) { return 4; }
abbrev pub Caught : Type 0
Caught =
    ending 9
    (static_method main 2 1 (bare 0 0x08 ∷ bare 1 0x03 ∷ bare 2 0x6c ∷ bare 3 0xac ∷ bare 4 0x4b ∷ bare 5 0x07 ∷ bare 6 0xac ∷ [])
    (record { start = 0; end = 4; handler = 4; class = Some (codes "java/lang/ArithmeticException") } ∷ []))
    ≡ gives (int (pos 4))

abbrev pub length : MemberRef
length = member (codes "java/lang/String") (codes "length") (codes "()I")

abbrev pub of_text : MethodRow
of_text =
    static_method main 1 0 (naming 0 0x12 (constant (named.text (codes "abc"))) ∷ naming 2 0xb6 (constant (named.member 10 length)) ∷ bare 5 0xac ∷ []) []

abbrev pub some_class : ClassFacts
some_class = record { flags = 0; super_class = None; interfaces = []; has_default = false; fields = [] }

-- a program in which each reference leads to the native of its name
abbrev pub of_natives : MethodRow → Oracle
of_natives row (code_of method) = Some row
of_natives row (resolve method) = outer_method method
of_natives row (resolve_field field) = None
of_natives row (select method class) = outer_method method
of_natives row (select_special caller method) = nowhere
of_natives row (below low high) = true
of_natives row (class_of name) = Some some_class
of_natives row (layout_of name) = None
of_natives row (levels_of name) = []

-- "abc".length()
abbrev pub LengthOfText : Type 0
LengthOfText = body (of_natives of_text) no_files (task 3) [] ≡ gives (int (pos 3))
