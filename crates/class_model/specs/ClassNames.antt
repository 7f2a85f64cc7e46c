-- Names of classes, fields and methods (JVMS 4.2).
use Rattle.std.specs.Prelude.{ℕ, Bool, not, ◌&&◌, ◌||◌, ◌==◌, List, length, codes, bytes_eq}
use Rattle.std.specs.List.{list_all, list_any, slice_split}
use Rattle.std.specs.Str.{byte}

-- an unqualified name has none of . ; [ and / (JVMS 4.2.2)
abbrev pub may_stand : ℕ → Bool
may_stand b = not (b == byte "." || b == byte ";" || b == byte "[" || b == byte "/")

unfoldable pub is_unqualified : List ℕ → Bool
is_unqualified name = not (length name == 0) && list_all may_stand name

abbrev pub is_angle : ℕ → Bool
is_angle b = b == byte "<" || b == byte ">"

-- nor has a method's name < or >, but for the two special ones
unfoldable pub is_method_name : List ℕ → Bool
is_method_name name =
    bytes_eq name (codes "<init>") || bytes_eq name (codes "<clinit>")
    || is_unqualified name && not (list_any is_angle name)

-- the binary name of a class or interface in its internal form (JVMS 4.2.1): unqualified names with / between them
unfoldable pub is_class_name : List ℕ → Bool
is_class_name name = list_all is_unqualified (slice_split (λ b. b == byte "/") name)
