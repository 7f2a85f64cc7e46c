-- Objects, and the cells that each costs (JVMS 2.4, 2.7). `C` tells classes and `S` tells where a lambda was made: by place
-- in memory, by name in the machine's state.
use Rattle.std.specs.Prelude.{ℕ, ◌+◌, ℤ, Bool, List, length}
use Rattle.jvm_tables.specs.declared.elements.ElementKind.{ElementKind}
use Rattle.jvm_heap.specs.declared.slot.Slot.{Slot}

-- what an array of so many dimensions is made of in the end
pub data Base (C : Type 0) : Type 0 where
  primitive : ElementKind → Base C
  of_class : C → Base C

-- dimensions are counted from 1
pub record ArrayKind (C : Type 0) : Type 0 where
  pub base : Base C
  pub depth : ℕ

-- Objects are named by number, and 0 is null. Fields stand in the order of the class's layout. Elements of boolean, byte,
-- char, short and int are ints.
pub data Object (C S : Type 0) : Type 0 where
  -- a class and its fields
  plain : C → List Slot → Object C S
  -- a class, its fields, its message and its cause
  throwable : C → List Slot → ℕ → ℕ → Object C S
  -- a class, its fields, its name and its ordinal
  enumerated : C → List Slot → ℕ → ℤ → Object C S
  array : ArrayKind C → List Slot → Object C S
  -- units of UTF-16
  text : List ℕ → Object C S
  boxed_int : ℤ → Object C S
  boxed_long : ℤ → Object C S
  boxed_boolean : Bool → Object C S
  -- a class of lists and its elements
  listed : C → List ℕ → Object C S
  -- the units that were appended
  builder : List ℕ → Object C S
  -- a list and the place of the next element
  iterator : ℕ → ℕ → Object C S
  -- an owner and a path, both in UTF-8
  path_reference : List ℕ → List ℕ → Object C S
  -- its site, and the values that it captured
  lambda : S → List Slot → Object C S

abbrev pub cells_of : {C S : Type 0} → Object C S → ℕ
cells_of (plain class fields) = 1 + length fields
cells_of (throwable class fields message cause) = 3 + length fields
cells_of (enumerated class fields name ordinal) = 3 + length fields
cells_of (array kind elements) = 1 + length elements
cells_of (text units) = 1 + length units
cells_of (boxed_int n) = 2
cells_of (boxed_long n) = 2
cells_of (boxed_boolean b) = 2
cells_of (listed class elements) = 1 + length elements
cells_of (builder units) = 1 + length units
cells_of (iterator elements next) = 3
cells_of (path_reference owner path) = 1
cells_of (lambda site captured) = 1 + length captured
