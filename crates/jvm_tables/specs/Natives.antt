-- The table of natives. Names and descriptors are lists of bytes.
use Rattle.std.specs.Prelude.{ℕ, ◌+◌, ◌==◌, Bool, true, false, ◌&&◌, if◌then◌else◌, List, [], ◌∷◌, map, Option, Some, None}
use Rattle.std.specs.Str.{bytes_eq}
use Rattle.jvm_tables.specs.declared.externals.Family.{Family}
use Rattle.jvm_tables.specs.declared.externals.Family.TheVariants as families
use Rattle.jvm_tables.specs.declared.natives.Callback.{Callback}
use Rattle.jvm_tables.specs.declared.natives.NativeRow.{NativeRow}
use Rattle.jvm_tables.specs.declared.natives.TheConstants.{NATIVES}
use Rattle.jvm_tables.specs.Externals.{External, Text, external_of}

-- what the table states of a native
pub record Native : Type 0 where
  pub class : List ℕ
  pub family : Family
  pub name : List ℕ
  pub descriptor : List ℕ
  pub is_static : Bool
  pub calls_back : Option Callback

-- what a row of the table states, where its texts are given by `text`
abbrev pub stated_by : {T : Type 0} → (T → List ℕ) → T × Family × T × T × Bool × Option Callback → Native
stated_by text facts =
    record {
      class = text facts.0;
      family = facts.1;
      name = text facts.2;
      descriptor = text facts.3;
      is_static = facts.4;
      calls_back = facts.5;
    }

-- the table
unfoldable pub natives : List Native
natives = map (λ facts. stated_by (λ t. t.now) facts) NATIVES

abbrev pub Facts : Type 0
Facts = Text × Family × Text × Text × Bool × Option Callback

-- what rows in memory state
abbrev pub stated : Facts → Native
stated facts = stated_by (λ t. t.now) facts

abbrev pub all_stated : List Facts → List Native
all_stated rows = map stated rows

-- the name of an array's class begins with a bracket, whose code is 91
abbrev pub is_array : List ℕ → Bool
is_array [] = false
is_array (c ∷ _) = c == 91

abbrev pub in_lists : Family → Bool
in_lists families.Lists = true
in_lists _ = false

abbrev pub in_throwables : Family → Bool
in_throwables families.Throwables = true
in_throwables _ = false

abbrev pub is_list : Option (ℕ × External) → Bool
is_list None = false
is_list (Some found) = in_lists found.1.family

abbrev pub is_throwable : Option (ℕ × External) → Bool
is_throwable None = false
is_throwable (Some found) = in_throwables found.1.family

-- a native of the owner and the family stands on the class
abbrev pub stands_on : List ℕ → Family → List ℕ → Bool
stands_on owner families.Alone class = bytes_eq owner class
stands_on owner families.Arrays class = is_array class
stands_on owner families.Lists class = is_list (external_of class)
stands_on owner families.Throwables class = is_throwable (external_of class)

-- the row is that of this method
abbrev pub is_native : List ℕ → List ℕ → List ℕ → Native → Bool
is_native class name descriptor row =
    bytes_eq row.name name && bytes_eq row.descriptor descriptor && stands_on row.class row.family class

-- the first row of a method, and its place in a table that begins at a place
abbrev pub native_from : ℕ → List ℕ → List ℕ → List ℕ → List Native → Option (ℕ × Native)
native_from at class name descriptor [] = None
native_from at class name descriptor (row ∷ rows) =
    if is_native class name descriptor row then Some (at, row) else native_from (at + 1) class name descriptor rows

-- the row of a class, name and descriptor, and its place
abbrev pub native_of : List ℕ → List ℕ → List ℕ → Option (ℕ × Native)
native_of class name descriptor = native_from 0 class name descriptor natives

-- what a row says
abbrev pub said : NativeRow → ℕ × Native
said row = (
  row.at,
  record {
    class = row.class.now;
    family = row.family;
    name = row.name.now;
    descriptor = row.descriptor.now;
    is_static = row.is_static;
    calls_back = row.calls_back;
  },
)
