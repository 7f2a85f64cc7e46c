-- Selection of methods (JVMS 5.4.6).
use Rattle.std.specs.Prelude.{ℕ, ◌||◌, List, length, Option, Some, None, if◌then◌else◌}
use Rattle.class_model.specs.declared.identifiers.ClassId.{ClassId}
use Rattle.class_model.specs.declared.identifiers.MemberId.{MemberId}
use Rattle.class_index.specs.declared.outline.Outline.{Outline}
use Rattle.class_index.specs.declared.members.Wanted.TheVariants.{Overriding}
use Rattle.class_index.specs.declared.lookup.Found.{Found}
use Rattle.class_index.specs.declared.lookup.Choice.{Choice}
use Rattle.class_index.specs.declared.lookup.Choice.TheVariants.{Nothing, One, Many}
use Rattle.class_index.specs.declared.select.Selected.{Selected}
use Rattle.class_index.specs.declared.select.Selected.TheVariants as selected
use Rattle.class_index.specs.Hierarchy.{all_of, supers, place}
use Rattle.class_index.specs.Members.{wanted_method}
use Rattle.class_index.specs.Lookups.{nearest, in_interface, most_specific}
use Rattle.class_index.specs.Resolution.{member_of, above}
use Rattle.class_index.specs.Declarations.{Declaration, method_at}

-- a method that was looked up in a class, unless it is abstract
abbrev pub unless_abstract : ℕ → Found → Selected
unless_abstract own found =
    if found.method.is_abstract then selected.Abstract else selected.Found (member_of own found.place found.method.at)

-- of the maximally-specific superinterface methods that aren't abstract there must be exactly one
abbrev pub the_only : ℕ → Choice → Selected
the_only own Nothing = selected.Abstract
the_only own (One found) = selected.Found (member_of own found.place found.method.at)
the_only own Many = selected.Tie

abbrev pub or_only : ℕ → Option Found → Choice → Selected
or_only own (Some found) choice = unless_abstract own found
or_only own None choice = the_only own choice

-- The nearest method of the name and descriptor that can override (5.4.5: neither private nor static), along a class
-- and its superclasses; where there is none, the maximally-specific superinterface methods of the class (5.4.3.3)
unfoldable pub overriding : ℕ → List Outline → List (Option ℕ) → (ℕ → List ℕ) → List ℕ → List ℕ → ℕ → Selected
overriding own all supers above name descriptor place =
    or_only own (nearest (wanted_method own all name descriptor Overriding) supers (length all) place)
    (most_specific (in_interface own all name descriptor) above (above place))

-- What is selected for a resolved method and the class of the receiver. A private method is itself selected, and so is
-- a method that arrays alone have.
abbrev pub select : List Outline → MemberId → ClassId → Selected
select classes resolved receiver = by_method (method_at classes resolved)
  where
    by_method : Option Declaration → Selected
    by_method None = selected.Abstract
    by_method (Some m) =
        if m.method.is_private || m.method.is_of_arrays then selected.Found resolved
        else
        overriding (length classes) (all_of classes) (supers (all_of classes)) (above (all_of classes)) m.name m.descriptor
        (place classes receiver)
