-- Looking for members in a class and above it (JVMS 5.4.3).
use Rattle.std.specs.Prelude.{ℕ, zero, suc, ◌<◌, Bool, false, ◌&&◌, ◌||◌, List, [], ◌∷◌, length, filter_map, slice_get, slice_index_or, Option, Some, None, is_some, option_map, option_and_then, unwrap_or, All, IfSome, if◌then◌else◌}
use Rattle.class_model.specs.Shape.{has_flag}
use Rattle.place_graph.specs.Graphs.{is_among}
use Rattle.class_index.specs.declared.outline.Outline.{Outline}
use Rattle.class_index.specs.declared.members.Method.{Method}
use Rattle.class_index.specs.declared.lookup.Found.{Found}
use Rattle.class_index.specs.declared.lookup.Choice.{Choice}
use Rattle.class_index.specs.declared.lookup.Choice.TheVariants.{Nothing, One, Many}
use Rattle.class_index.specs.declared.members.Wanted.TheVariants.{Any, Overriding}
use Rattle.class_index.specs.Outlines.{interface_flag}
use Rattle.class_index.specs.Members.{wanted_method, member_from}

abbrev pub found_at : ℕ → Method → Found
found_at place method = record { place = place; method = method }

abbrev pub super_at : List (Option ℕ) → ℕ → Option ℕ
super_at supers place = slice_index_or supers place None

abbrev pub or_further : ℕ → Option Method → Option Found → Option Found
or_further place (Some m) further = Some (found_at place m)
or_further place None further = further

-- the nearest method along a class and its superclasses, of which there are at most so many
unfoldable pub nearest : (ℕ → Option Method) → List (Option ℕ) → ℕ → ℕ → Option Found
nearest find supers zero place = None
nearest find supers (suc more) place =
    or_further place (find place) (option_and_then (nearest find supers more) (super_at supers place))

abbrev pub is_interface : List Outline → ℕ → Bool
is_interface all place = unwrap_or (option_map (λ o. has_flag interface_flag o.flags) (slice_get all place)) false

-- a method that may be found in a superinterface: of an interface, and neither private nor static
abbrev pub in_interface : ℕ → List Outline → List ℕ → List ℕ → ℕ → Option Method
in_interface own all name descriptor place =
    if is_interface all place then wanted_method own all name descriptor Overriding place else None

-- one of the others has such a method and is a subinterface of the place
abbrev pub is_beaten : (ℕ → Option Method) → (ℕ → List ℕ) → ℕ → List ℕ → Bool
is_beaten find above place [] = false
is_beaten find above place (other ∷ others) =
    is_some (find other) && is_among place (above other) || is_beaten find above place others

abbrev pub if_concrete : ℕ → Bool → Option Method → Option Found
if_concrete place beaten None = None
if_concrete place beaten (Some m) = if m.is_abstract || beaten then None else Some (found_at place m)

-- JVMS 5.4.3.3: a maximally-specific superinterface method that isn't abstract; `others` are all above the class
abbrev pub specific : (ℕ → Option Method) → (ℕ → List ℕ) → List ℕ → ℕ → Option Found
specific find above others place = if_concrete place (is_beaten find above place others) (find place)

abbrev pub choice_of : List Found → Choice
choice_of [] = Nothing
choice_of (found ∷ []) = One found
choice_of (found ∷ other ∷ more) = Many

-- how many there are
abbrev pub most_specific : (ℕ → Option Method) → (ℕ → List ℕ) → List ℕ → Choice
most_specific find above others = choice_of (filter_map (specific find above others) others)

-- the first, depth first, of those in superinterfaces
abbrev pub first_in : (ℕ → Option Method) → List ℕ → Option Found
first_in find [] = None
first_in find (place ∷ places) = or_further place (find place) (first_in find places)

abbrev pub the_one : Choice → Option Found → Option Found
the_one (One found) other = Some found
the_one Nothing other = other
the_one Many other = other

abbrev pub or_found : Option Found → Option Found → Option Found
or_found (Some found) other = Some found
or_found None other = other

-- JVMS 5.4.3.3: the class and its superclasses, then the one maximally-specific superinterface method that isn't
-- abstract, then any superinterface method, of which the first is taken
unfoldable pub resolved : ℕ → List Outline → List (Option ℕ) → (ℕ → List ℕ) → List ℕ → List ℕ → ℕ → Option Found
resolved own all supers above name descriptor place =
    or_found (nearest (wanted_method own all name descriptor Any) supers (length all) place)
    (the_one (most_specific (in_interface own all name descriptor) above (above place))
    (first_in (in_interface own all name descriptor) (above place)))

-- superclasses are among the classes
abbrev pub AreSupers : ℕ → List (Option ℕ) → Type 0
AreSupers n = All (λ s. IfSome s (λ place. place < n))

-- the field of a name and descriptor that the class at a place declares
abbrev pub field_at : List Outline → List ℕ → List ℕ → ℕ → Option ℕ
field_at all name descriptor place = option_map (λ f. f.0) (option_and_then (λ o. member_from 0 name descriptor o.fields) (slice_get all place))

-- the first of the places that has one
abbrev pub first_field : (ℕ → Option ℕ) → List ℕ → Option (ℕ × ℕ)
first_field find [] = None
first_field find (place ∷ places) = or_next place (find place) (first_field find places)
  where
    or_next : ℕ → Option ℕ → Option (ℕ × ℕ) → Option (ℕ × ℕ)
    or_next place (Some at) next = Some (place, at)
    or_next place None next = next
