-- When no method has two natives, and what natives call back is there.
use Rattle.std.specs.Prelude.{ℕ, Bool, true, false, not, ◌&&◌, ◌||◌, List, [], ◌∷◌, Option, Some, None, is_some}
use Rattle.std.specs.Str.{bytes_eq}
use Rattle.jvm_tables.specs.declared.externals.Family.{Family}
use Rattle.jvm_tables.specs.declared.externals.Family.TheVariants as families
use Rattle.jvm_tables.specs.Externals.{Method, External, external_of}
use Rattle.jvm_tables.specs.Natives.{Native, native_of, stands_on}

-- no class has natives of both owners
abbrev pub owners_apart : List ℕ → Family → List ℕ → Family → Bool
owners_apart a families.Alone b families.Alone = not (bytes_eq a b)
owners_apart a families.Alone b family = not (stands_on b family a)
owners_apart a family b families.Alone = not (stands_on a family b)
owners_apart a families.Lists b families.Throwables = true
owners_apart a families.Throwables b families.Lists = true
owners_apart a families.Arrays b families.Lists = true
owners_apart a families.Lists b families.Arrays = true
owners_apart a families.Arrays b families.Throwables = true
owners_apart a families.Throwables b families.Arrays = true
owners_apart a _ b _ = false

abbrev pub apart : Native → Native → Bool
apart a b =
    not (bytes_eq a.name b.name) || not (bytes_eq a.descriptor b.descriptor) || owners_apart a.class a.family b.class b.family

abbrev pub apart_from_all : Native → List Native → Bool
apart_from_all a [] = true
apart_from_all a (b ∷ rows) = apart a b && apart_from_all a rows

-- no class has two natives of one name and descriptor
abbrev pub all_apart : List Native → Bool
all_apart [] = true
all_apart (a ∷ rows) = apart_from_all a rows && all_apart rows

-- each native's class is in the table of external classes
abbrev pub classes_known : List Native → Bool
classes_known [] = true
classes_known (row ∷ rows) = is_some (external_of row.class) && classes_known rows

abbrev pub is_instance : Option (ℕ × Native) → Bool
is_instance None = false
is_instance (Some found) = not found.1.is_static

abbrev pub same_method : Method → Option Method → Bool
same_method a None = false
same_method a (Some b) = bytes_eq a.name b.name && bytes_eq a.descriptor b.descriptor

abbrev pub is_abstract_of : Method → Option (ℕ × External) → Bool
is_abstract_of method None = false
is_abstract_of method (Some found) = same_method method found.1.abstract_method

-- the method is a native of objects, or the abstract method of an interface
abbrev pub can_be_called : Method → Bool
can_be_called method =
    is_instance (native_of method.class method.name method.descriptor) || is_abstract_of method (external_of method.class)
