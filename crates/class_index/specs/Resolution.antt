-- Resolution of fields and methods (JVMS 5.4.3).
use Rattle.std.specs.Prelude.{ℕ, ◌+◌, Bool, true, false, List, ◌∷◌, length, codes, Option, None, option_map, option_and_then, if◌then◌else◌}
use Rattle.class_model.specs.declared.identifiers.MemberId.{MemberId}
use Rattle.jvm_tables.specs.Externals.{external_of}
use Rattle.jvm_tables.specs.Natives.{Native, native_of, is_array}
use Rattle.place_graph.specs.Graphs.{beyond}
use Rattle.class_index.specs.declared.outline.Outline.{Outline}
use Rattle.class_index.specs.declared.lookup.Found.{Found}
use Rattle.class_index.specs.Hierarchy.{all_of, names, place_of, supers, hierarchy, id_of}
use Rattle.class_index.specs.Members.{native_method}
use Rattle.class_index.specs.Lookups.{found_at, resolved, or_found, field_at, first_field}

abbrev pub member_of : ℕ → ℕ → ℕ → MemberId
member_of own place at = record { class = id_of own place; at = at }

-- all that is above a class, depth first: each direct superinterface in order, then the superclass
abbrev pub above : List Outline → ℕ → List ℕ
above all = beyond (hierarchy all)

-- JVMS 5.4.3.2: the class, then in the same way each direct superinterface in order, then the superclass
abbrev pub resolve_field : List Outline → List ℕ → List ℕ → List ℕ → Option MemberId
resolve_field classes owner name descriptor =
    option_map (λ f. member_of (length classes) f.0 f.1)
    (option_and_then (λ place. first_field (field_at (all_of classes) name descriptor) (place ∷ above (all_of classes) place))
    (place_of (names (all_of classes)) owner))

-- An array class has the methods of Object beside its own.
abbrev pub owner_place : List Outline → List ℕ → Option ℕ
owner_place classes owner =
    if is_array owner then option_map (λ row. length classes + row.0) (external_of (codes "java/lang/Object"))
    else place_of (names (all_of classes)) owner

abbrev pub of_array : ℕ → Bool → Option (ℕ × Native) → Option Found
of_array place true native = option_map (λ n. found_at place (native_method n)) native
of_array place false native = None

-- JVMS 5.4.3.3
abbrev pub method_through : List Outline → List ℕ → List ℕ → List ℕ → ℕ → Option Found
method_through classes owner name descriptor place =
    or_found (of_array place (is_array owner) (native_of owner name descriptor))
    (resolved (length classes) (all_of classes) (supers (all_of classes)) (above (all_of classes)) name descriptor place)

abbrev pub resolve_method : List Outline → List ℕ → List ℕ → List ℕ → Option MemberId
resolve_method classes owner name descriptor =
    option_map (λ f. member_of (length classes) f.place f.method.at)
    (option_and_then (method_through classes owner name descriptor) (owner_place classes owner))
