-- What instructions and natives throw: a class, and a message where it has one.
use Rattle.std.specs.Prelude.{ℕ, ℤ, List, ◌++◌, codes, decimal, Option, Some, None}
use Rattle.std.specs.Fmt.{signed_decimal}
use Rattle.line_text.specs.Lines.{units_of_name}
use Rattle.native_model.specs.Texts.{dotted}

-- the class by name, the message in units of UTF-16
pub record Thrown : Type 0 where
  pub class : List ℕ
  pub message : Option (List ℕ)

abbrev pub bare : List ℕ → Thrown
bare class = record { class = class; message = None }

abbrev pub saying : List ℕ → List ℕ → Thrown
saying class message = record { class = class; message = Some message }

abbrev pub null_pointer : Thrown
null_pointer = bare (codes "java/lang/NullPointerException")

abbrev pub class_cast : Thrown
class_cast = bare (codes "java/lang/ClassCastException")

-- an object of another class than is named, and a method or field that is static or isn't
abbrev pub incompatible_change : Thrown
incompatible_change = bare (codes "java/lang/IncompatibleClassChangeError")

abbrev pub unsupported : Thrown
unsupported = bare (codes "java/lang/UnsupportedOperationException")

abbrev pub no_such_element : Thrown
no_such_element = bare (codes "java/util/NoSuchElementException")

abbrev pub array_store : Thrown
array_store = bare (codes "java/lang/ArrayStoreException")

abbrev pub abstract_method : Thrown
abstract_method = bare (codes "java/lang/AbstractMethodError")

abbrev pub unsatisfied_link : Thrown
unsatisfied_link = bare (codes "java/lang/UnsatisfiedLinkError")

abbrev pub instantiation : Thrown
instantiation = bare (codes "java/lang/InstantiationError")

abbrev pub division_by_zero : Thrown
division_by_zero = saying (codes "java/lang/ArithmeticException") (codes "/ by zero")

abbrev pub bounds_message : ℤ → ℕ → List ℕ
bounds_message index length = codes "Index " ++ signed_decimal index ++ codes " out of bounds for length " ++ decimal length

abbrev pub list_bounds : ℤ → ℕ → Thrown
list_bounds index length = saying (codes "java/lang/IndexOutOfBoundsException") (bounds_message index length)

abbrev pub text_bounds : ℤ → ℕ → Thrown
text_bounds index length = saying (codes "java/lang/StringIndexOutOfBoundsException") (bounds_message index length)

abbrev pub array_bounds : ℤ → ℕ → Thrown
array_bounds index length = saying (codes "java/lang/ArrayIndexOutOfBoundsException") (bounds_message index length)

abbrev pub negative_size : ℤ → Thrown
negative_size size = saying (codes "java/lang/NegativeArraySizeException") (signed_decimal size)

-- the text that is no number
abbrev pub number_format : List ℕ → Thrown
number_format units = saying (codes "java/lang/NumberFormatException") units

abbrev pub absent_class : List ℕ → Thrown
absent_class name = saying (codes "java/lang/NoClassDefFoundError") (dotted name)

-- the name of the member alone
abbrev pub absent_method : List ℕ → Thrown
absent_method name = saying (codes "java/lang/NoSuchMethodError") (units_of_name name)

abbrev pub absent_field : List ℕ → Thrown
absent_field name = saying (codes "java/lang/NoSuchFieldError") (units_of_name name)

abbrev pub denied : List ℕ → Thrown
denied what = saying (codes "mill/Denied") what

-- the path that is missing, no text, or in the way
abbrev pub file_fault : List ℕ → Thrown
file_fault units = saying (codes "java/io/IOException") units
