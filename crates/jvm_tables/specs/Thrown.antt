-- What an instruction may throw, by the names of the classes.
use Rattle.std.specs.Prelude.{ℕ, Bool, true, ◌&&◌, List, [], ◌∷◌, Option, Some, None, codes}
use Rattle.jvm_tables.specs.declared.instruction.Throws.{Throws}
use Rattle.jvm_tables.specs.declared.instruction.Throws.TheVariants as throws
use Rattle.jvm_tables.specs.Externals.{external_of}
use Rattle.jvm_tables.specs.Natives.{is_throwable}

-- the classes of a group, where not every throwable may come
abbrev pub thrown : Throws → Option (List (List ℕ))
thrown throws.Nothing = Some []
thrown throws.Division = Some (codes "java/lang/ArithmeticException" ∷ [])
thrown throws.ArrayAccess =
    Some (codes "java/lang/NullPointerException" ∷ codes "java/lang/IncompatibleClassChangeError" ∷ codes "java/lang/ArrayIndexOutOfBoundsException" ∷ [])
thrown throws.ArrayStore =
    Some (codes "java/lang/NullPointerException" ∷ codes "java/lang/IncompatibleClassChangeError" ∷ codes "java/lang/ArrayIndexOutOfBoundsException" ∷ codes "java/lang/ArrayStoreException" ∷ [])
thrown throws.ArrayLength = Some (codes "java/lang/NullPointerException" ∷ codes "java/lang/IncompatibleClassChangeError" ∷ [])
thrown throws.NewArray = Some (codes "java/lang/NegativeArraySizeException" ∷ [])
thrown throws.NewReferenceArray = Some (codes "java/lang/NoClassDefFoundError" ∷ codes "java/lang/NegativeArraySizeException" ∷ [])
thrown throws.Constant = Some (codes "java/lang/UnsupportedOperationException" ∷ [])
thrown throws.Cast = Some (codes "java/lang/NoClassDefFoundError" ∷ codes "java/lang/ClassCastException" ∷ [])
thrown throws.ClassTest = Some (codes "java/lang/NoClassDefFoundError" ∷ [])
thrown throws.Monitor = Some (codes "java/lang/NullPointerException" ∷ [])
thrown throws.Field =
    Some (codes "java/lang/NoClassDefFoundError" ∷ codes "java/lang/NoSuchFieldError" ∷ codes "java/lang/IncompatibleClassChangeError" ∷ codes "java/lang/NullPointerException" ∷ [])
thrown throws.Anything = None

abbrev pub all_throwable : List (List ℕ) → Bool
all_throwable [] = true
all_throwable (class ∷ classes) = is_throwable (external_of class) && all_throwable classes

-- each class of the group is a throwable of the table of external classes
abbrev pub are_throwables : Option (List (List ℕ)) → Bool
are_throwables None = true
are_throwables (Some classes) = all_throwable classes
