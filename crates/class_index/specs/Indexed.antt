-- What an index keeps of the classes of a program.
use Rattle.std.specs.Prelude.{◌≡◌, ℕ, ◌≤◌, ◌<◌, ◌^◌, List, length, take, All, Option}
use Rattle.class_index.specs.Members.{HasFewMembers}
use Rattle.place_graph.specs.Orders.{IsClosed}
use Rattle.class_index.specs.declared.outline.Outline.{Outline}
use Rattle.class_index.specs.Hierarchy.{all_of, names, supers, hierarchy}
use Rattle.class_index.specs.Places.{IsPlaces}

-- all classes, of which so many are the program's
pub record IsAll (own : ℕ) (all : List Outline) : Type 0 where
  pub within : own ≤ length all
  pub external : all ≡ all_of (take own all)
  pub members : All HasFewMembers all

-- All classes, of which so many are the program's; the places of names; the superclass of each class; and what is above
-- each class.
pub record IsIndex (own : ℕ) (all : List Outline) (find : List ℕ → Option ℕ) (found : List (Option ℕ)) (above : List (List ℕ)) : Type 0 where
  pub classes : IsAll own all
  pub few : length all < 2 ^ 32
  pub places : IsPlaces 0 (names all) find
  pub supers : found ≡ supers all
  pub closed : IsClosed (hierarchy all) above
