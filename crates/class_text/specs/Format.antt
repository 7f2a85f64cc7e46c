-- The tags, names and limits of class files that definitions, the reader and the writer name.
use Rattle.std.specs.Prelude.{ℕ, List, codes}

-- ---- stack maps (JVMS 4.7.4)

-- verification types: those of a lower tag have nothing behind it
abbrev pub object_tag : ℕ
object_tag = 7

abbrev pub uninitialized_tag : ℕ
uninitialized_tag = 8

-- frames: the lowest tag of each form; a frame of a lower tag is the same as the one before
abbrev pub same_locals_1_tag : ℕ
same_locals_1_tag = 64

abbrev pub reserved_tag : ℕ
reserved_tag = 128

abbrev pub same_locals_1_extended_tag : ℕ
same_locals_1_extended_tag = 247

abbrev pub same_extended_tag : ℕ
same_extended_tag = 251

abbrev pub append_tag : ℕ
append_tag = 252

abbrev pub full_tag : ℕ
full_tag = 255

-- ---- limits

-- the major versions of Java 8 to Java 21 (JVMS 4.1)
abbrev pub oldest_major : ℕ
oldest_major = 52

abbrev pub newest_major : ℕ
newest_major = 65

-- the most bytes of code (JVMS 4.7.3)
abbrev pub most_code : ℕ
most_code = 65535

-- ---- names

-- the attributes whose content is read (JVMS 4.7)
abbrev pub bootstrap_methods_name : List ℕ
bootstrap_methods_name = codes "BootstrapMethods"

abbrev pub constant_value_name : List ℕ
constant_value_name = codes "ConstantValue"

abbrev pub code_name : List ℕ
code_name = codes "Code"

abbrev pub stack_map_table_name : List ℕ
stack_map_table_name = codes "StackMapTable"

abbrev pub visible_annotations_name : List ℕ
visible_annotations_name = codes "RuntimeVisibleAnnotations"

-- the class without a class above it (JVMS 4.1)
abbrev pub object_name : List ℕ
object_name = codes "java/lang/Object"
