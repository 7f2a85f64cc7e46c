-- Lists of classes by their names.
use Rattle.std.specs.Prelude.{ℕ, ◌<◌, ◌≤◌, ◌≡◌, ◌⊎◌, false, Some, None, take, slice_index_or, List, Option, All, count_by, find, bytes_eq}
use Rattle.std.specs.Cmp.Lexicographic.{slice_cmp}
use Rattle.std.specs.Ordering.{nat_cmp, is_gt}
use Rattle.class_model.specs.declared.class_file.Class.{Class}
use Rattle.class_model.specs.Shape.{Shaped, class_name}

-- how many classes have a name
abbrev pub count_named : List ℕ → List Class → ℕ
count_named name classes = count_by (λ c. bytes_eq name (class_name c)) classes

-- the first class of a name
unfoldable pub find_class : List ℕ → List Class → Option Class
find_class name classes = find (λ c. bytes_eq name (class_name c)) classes

abbrev pub HasDistinctNames : List Class → Type 0
HasDistinctNames classes = (name : List ℕ) → count_named name classes ≤ 1

-- Two classes have the name, and no lesser name in the order of bytes is the name of two.
pub record IsLeastDouble (name : List ℕ) (classes : List Class) : Type 0 where
  pub twice : 2 ≤ count_named name classes
  pub least : (other : List ℕ) → 2 ≤ count_named other classes → is_gt (slice_cmp nat_cmp name other) ≡ false

-- what a program is: shaped classes with distinct names
pub record IsProgram (classes : List Class) : Type 0 where
  pub shaped : All Shaped classes
  pub distinct : HasDistinctNames classes

abbrev pub name_at : List Class → ℕ → Class → List ℕ
name_at classes at d = class_name (slice_index_or classes at d)

-- what an index of names finds among the first n classes: a place of the name, or nothing where no class has it
abbrev pub FoundAmong : List Class → ℕ → List ℕ → Option ℕ → Type 0
FoundAmong classes n name None = count_named name (take n classes) ≡ 0
FoundAmong classes n name (Some at) =
    (at < n) × (0 < count_named name (take n classes)) × ((d : Class) → name_at classes at d ≡ name)

-- `find` finds each name among the first n classes
abbrev pub IsIndexOf : List Class → ℕ → (List ℕ → Option ℕ) → Type 0
IsIndexOf classes n find = (name : List ℕ) → FoundAmong classes n name (find name)

-- a place whose name is the least double among the first n classes, if any is a double
abbrev pub LeastAmong : List Class → ℕ → Option ℕ → Type 0
LeastAmong classes n None = HasDistinctNames (take n classes)
LeastAmong classes n (Some at) =
    (at < n) × ((d : Class) → IsLeastDouble (name_at classes at d) (take n classes))

-- of two places the one with the lesser name
pub record IsLesser (classes : List Class) (one other found : ℕ) : Type 0 where
  pub among : (found ≡ one) ⊎ (found ≡ other)
  pub below_one : (d : Class) → is_gt (slice_cmp nat_cmp (name_at classes found d) (name_at classes one d)) ≡ false
  pub below_other : (d : Class) → is_gt (slice_cmp nat_cmp (name_at classes found d) (name_at classes other d)) ≡ false
