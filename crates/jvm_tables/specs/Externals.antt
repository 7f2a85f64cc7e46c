-- The table of external classes. Names are lists of bytes, with slashes.
use Rattle.std.specs.Prelude.{ℕ, ◌+◌, Bool, true, ◌&&◌, if◌then◌else◌, List, [], ◌∷◌, map, Option, Some, None, option_map}
use Rattle.std.specs.Borrow.{Bor}
use Rattle.std.specs.Ordering.{is_lt, nat_cmp}
use Rattle.std.specs.Str.{bytes_eq}
use Rattle.std.specs.Cmp.Lexicographic.{slice_cmp}
use Rattle.jvm_tables.specs.declared.externals.ExternalMethod.{ExternalMethod}
use Rattle.jvm_tables.specs.declared.externals.ExternalRow.{ExternalRow}
use Rattle.jvm_tables.specs.declared.externals.Family.{Family}
use Rattle.jvm_tables.specs.declared.externals.TheConstants.{EXTERNALS}

-- a method by its class, name and descriptor
pub record Method : Type 0 where
  pub class : List ℕ
  pub name : List ℕ
  pub descriptor : List ℕ

-- what the table states of a class
pub record External : Type 0 where
  pub class : List ℕ
  pub super_class : Option (List ℕ)
  pub interfaces : List (List ℕ)
  pub is_interface : Bool
  pub is_abstract : Bool
  pub is_extensible : Bool
  pub family : Family
  pub abstract_method : Option Method

abbrev pub method_named : List ℕ → Option (List ℕ × List ℕ) → Option Method
method_named class None = None
method_named class (Some method) = Some (record { class = class; name = method.0; descriptor = method.1 })

-- what a row of the table states, where its texts and lists of texts are given by `text` and `texts`
abbrev pub stated_by : {T L : Type 0} → (T → List ℕ) → (L → List T) → T × Option T × L × Bool × Bool × Bool × Family × Option (T × T) → External
stated_by text texts facts =
    record {
      class = text facts.0;
      super_class = option_map text facts.1;
      interfaces = map text (texts facts.2);
      is_interface = facts.3;
      is_abstract = facts.4;
      is_extensible = facts.5;
      family = facts.6;
      abstract_method = method_named (text facts.0) (option_map (λ m. (text m.0, text m.1)) facts.7);
    }

-- the table
unfoldable pub externals : List External
externals = map (λ facts. stated_by (λ t. t.now) (λ l. l.now) facts) EXTERNALS

-- a text in memory
abbrev pub Text : Type 0
Text = Bor (List ℕ)

abbrev pub Facts : Type 0
Facts = Text × Option Text × Bor (List Text) × Bool × Bool × Bool × Family × Option (Text × Text)

-- what rows in memory state
abbrev pub stated : Facts → External
stated facts = stated_by (λ t. t.now) (λ l. l.now) facts

abbrev pub all_stated : List Facts → List External
all_stated rows = map stated rows

-- the first row of that name, and its place in a table that begins at a place
abbrev pub external_from : ℕ → List ℕ → List External → Option (ℕ × External)
external_from at class [] = None
external_from at class (row ∷ rows) = if bytes_eq row.class class then Some (at, row) else external_from (at + 1) class rows

-- the row of a name, and its place
abbrev pub external_of : List ℕ → Option (ℕ × External)
external_of class = external_from 0 class externals

-- what a method and a row say
abbrev pub method_said : ExternalMethod → Method
method_said method = record { class = method.class.now; name = method.name.now; descriptor = method.descriptor.now }

abbrev pub said : ExternalRow → ℕ × External
said row = (
  row.at,
  record {
    class = row.class.now;
    super_class = option_map (λ t. t.now) row.super_class;
    interfaces = map (λ t. t.now) row.interfaces.now;
    is_interface = row.is_interface;
    is_abstract = row.is_abstract;
    is_extensible = row.is_extensible;
    family = row.family;
    abstract_method = option_map method_said row.abstract_method;
  },
)

abbrev pub comes_before : List ℕ → List ℕ → Bool
comes_before a b = is_lt (slice_cmp nat_cmp a b)

-- each name comes before the next one
abbrev pub names_rise : List External → Bool
names_rise [] = true
names_rise (a ∷ []) = true
names_rise (a ∷ b ∷ rows) = comes_before a.class b.class && names_rise (b ∷ rows)
