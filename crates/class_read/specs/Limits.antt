-- How much a build may have.
use Rattle.std.specs.Prelude.{ℕ, ◌≤◌, ◌<◌, List, length, sum_by, count_by}
use Rattle.class_model.specs.declared.class_file.Class.{Class}
use Rattle.class_model.specs.Shape.{has_code}
use Rattle.class_read.specs.declared.limits.Limit.{Limit}
use Rattle.class_read.specs.declared.limits.Limit.TheVariants.{Classes, Methods}

-- the most classes, and the most methods with code
abbrev pub most : Limit → ℕ
most Classes = 8192
most Methods = 262144

-- how many of a class's methods have code
abbrev pub code_count : Class → ℕ
code_count class = count_by (λ m. has_code m.attributes) class.methods

-- how many classes there are, and how many methods with code
abbrev pub count_of : Limit → List Class → ℕ
count_of Classes classes = length classes
count_of Methods classes = sum_by code_count classes

abbrev pub IsWithinLimit : Limit → List Class → Type 0
IsWithinLimit limit classes = count_of limit classes ≤ most limit

-- within each limit
pub record IsWithinLimits (classes : List Class) : Type 0 where
  pub few_classes : IsWithinLimit Classes classes
  pub few_methods : IsWithinLimit Methods classes

-- The limit is passed, and none before it.
abbrev pub IsFirstPassed : Limit → List Class → Type 0
IsFirstPassed Classes classes = most Classes < count_of Classes classes
IsFirstPassed Methods classes = IsWithinLimit Classes classes × (most Methods < count_of Methods classes)
