-- When the rows of the external classes agree with one another.
use Rattle.std.specs.Prelude.{ℕ, zero, suc, Bool, true, false, not, ◌&&◌, ◌||◌, List, [], ◌∷◌, Option, Some, None, is_none, codes}
use Rattle.std.specs.Str.{bytes_eq}
use Rattle.jvm_tables.specs.Agreement.{same}
use Rattle.jvm_tables.specs.Externals.{External, external_of}
use Rattle.jvm_tables.specs.Natives.{in_lists, in_throwables, is_list, is_throwable}

abbrev pub is_class : Option (ℕ × External) → Bool
is_class None = false
is_class (Some found) = not found.1.is_interface

abbrev pub is_interface : Option (ℕ × External) → Bool
is_interface None = false
is_interface (Some found) = found.1.is_interface

-- the super class is a class of the table, and Object that of an interface; Object alone has none
abbrev pub super_known : Bool → List ℕ → Option (List ℕ) → Bool
super_known interface class None = bytes_eq class (codes "java/lang/Object")
super_known interface class (Some super_class) =
    is_class (external_of super_class) && (not interface || bytes_eq super_class (codes "java/lang/Object"))

abbrev pub all_interfaces : List (List ℕ) → Bool
all_interfaces [] = true
all_interfaces (class ∷ classes) = is_interface (external_of class) && all_interfaces classes

abbrev pub any_list : List (List ℕ) → Bool
any_list [] = false
any_list (class ∷ classes) = is_list (external_of class) || any_list classes

abbrev pub super_throwable : Option (List ℕ) → Bool
super_throwable None = false
super_throwable (Some super_class) = is_throwable (external_of super_class)

-- A throwable is Throwable or below one; a list is Collection or implements one.
abbrev pub family_agrees : External → Bool
family_agrees row =
    same (in_throwables row.family) (bytes_eq row.class (codes "java/lang/Throwable") || super_throwable row.super_class)
    && same (in_lists row.family) (bytes_eq row.class (codes "java/util/Collection") || any_list row.interfaces)

-- Interfaces are abstract; only they have an abstract method; and only Object, Enum and the
-- throwables may be super classes.
abbrev pub flags_agree : External → Bool
flags_agree row =
    (not row.is_interface || row.is_abstract)
    && (row.is_interface || is_none row.abstract_method)
    && same row.is_extensible (bytes_eq row.class (codes "java/lang/Object") || bytes_eq row.class (codes "java/lang/Enum") || in_throwables row.family)

abbrev pub row_agrees : External → Bool
row_agrees row =
    super_known row.is_interface row.class row.super_class && all_interfaces row.interfaces && family_agrees row && flags_agree row

abbrev pub super_of : Option (ℕ × External) → Option (List ℕ)
super_of None = None
super_of (Some found) = found.1.super_class

-- the super classes of a class end after at most so many
abbrev pub ends_in : ℕ → Option (List ℕ) → Bool
ends_in steps None = true
ends_in zero (Some class) = false
ends_in (suc steps) (Some class) = ends_in steps (super_of (external_of class))

abbrev pub all_agree : List External → Bool
all_agree [] = true
all_agree (row ∷ rows) = row_agrees row && all_agree rows

-- no class is above itself: the longest chain of super classes has six
abbrev pub all_end : List External → Bool
all_end [] = true
all_end (row ∷ rows) = ends_in 6 row.super_class && all_end rows
