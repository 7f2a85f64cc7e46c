-- The lookups by which a step reads a program, and a step as a plan that asks them.
use Rattle.std.specs.Prelude.{ℕ, Bool, List, Option}
use Rattle.class_model.specs.declared.identifiers.MemberRef.{MemberRef}
use Rattle.class_index.specs.Naming.{Target, ClassFacts}
use Rattle.class_code.specs.Named.{Named}
use Rattle.class_code.specs.Rows.{MethodRow}

-- the fields of an object of a class, from its topmost superclass down, and the first external class at or above it
pub record Layout : Type 0 where
  pub fields : List MemberRef
  pub root : List ℕ

-- a static field by name and descriptor, and its constant where it has one (JVMS 4.7.2)
pub record StaticField : Type 0 where
  pub name : List ℕ
  pub descriptor : List ℕ
  pub constant : Option Named

-- what initialising a class of the program does by itself: its static fields, and whether it has a `<clinit>`
pub record Initialiser : Type 0 where
  pub class : List ℕ
  pub fields : List StaticField
  pub has_method : Bool

-- a class with the superinterfaces that are initialised with it (JVMS 5.5, step 7)
pub record Level : Type 0 where
  pub own : Initialiser
  pub interfaces : List Initialiser

pub data Lookup : Type 0 where
  -- the row of a method of the program
  code_of : MemberRef → Lookup
  -- JVMS 5.4.3.3, 5.4.3.4
  resolve : MemberRef → Lookup
  -- JVMS 5.4.3.2
  resolve_field : MemberRef → Lookup
  -- what a reference selects for a receiver of a class (JVMS 5.4.6)
  select : MemberRef → List ℕ → Lookup
  -- what a special reference selects that stands in a class (JVMS 6.5, invokespecial)
  select_special : List ℕ → MemberRef → Lookup
  -- whether a class is a subtype of another (JVMS 4.10)
  below : List ℕ → List ℕ → Lookup
  class_of : List ℕ → Lookup
  layout_of : List ℕ → Lookup
  -- a class of the program and its superclasses there, itself first; nothing for any other
  levels_of : List ℕ → Lookup

abbrev pub Answer : Lookup → Type 0
Answer (code_of method) = Option MethodRow
Answer (resolve method) = Target
Answer (resolve_field field) = Option (List ℕ × Bool)
Answer (select method class) = Target
Answer (select_special caller method) = Target
Answer (below low high) = Bool
Answer (class_of name) = Option ClassFacts
Answer (layout_of name) = Option Layout
Answer (levels_of name) = List Level

abbrev pub Oracle : Type 0
Oracle = (q : Lookup) → Answer q

-- it ends, or asks and goes on by the answer
pub data Plan (A : Type 0) : Type 0 where
  ends : A → Plan A
  asks : (q : Lookup) → (Answer q → Plan A) → Plan A

-- where a plan ends by the answers of an oracle
abbrev pub end_of : {A : Type 0} → Oracle → Plan A → A
end_of oracle (ends a) = a
end_of oracle (asks q next) = end_of oracle (next (oracle q))

-- one plan after another
abbrev pub after : {A B : Type 0} → Plan A → (A → Plan B) → Plan B
after (ends a) next = next a
after (asks q more) next = asks q (λ answer. after (more answer) next)

-- each lookup that is asked is one of these
abbrev pub AllAsked : {A : Type 0} → (Lookup → Type 0) → Oracle → Plan A → Type 0
AllAsked P oracle (ends a) = Unit {0}
AllAsked P oracle (asks q next) = P q × AllAsked P oracle (next (oracle q))
