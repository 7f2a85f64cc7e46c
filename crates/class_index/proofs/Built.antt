-- What was built is the index of the program's classes.
use Rattle.std.proofs.Common.{◌≡◌, ℕ, ◌+◌, ◌<◌, ◌^◌, Bool, List, [], ◌++◌, length, map, take, get_or, Option, refl, sym, ◌∙◌, ap, subst, arith, length-append}
use Rattle.std.specs.List.{All, filter_map}
use Rattle.std.proofs.lemmas.List.{length-take-le, take_at, length-map}
use Rattle.std.proofs.lemmas.List.Elements.{filter_agree, All-append, All-map, All-weaker}
use Rattle.jvm_tables.specs.Externals.{externals}
use Rattle.place_graph.specs.Orders.{IsClosed}
use Rattle.place_graph.specs.Searches.{AreReturning}
use Rattle.class_index.specs.declared.outline.Outline.{Outline}
use Rattle.class_index.specs.declared.fault.IndexFault.{IndexFault}
use Rattle.class_index.specs.declared.fault.IndexFault.TheVariants.{MissingSuper, CyclicSuper, Memory}
use Rattle.class_model.specs.declared.class_file.Class.{Class}
use Rattle.class_model.specs.Shape.{Shaped}
use Rattle.jvm_tables.specs.Externals.{External}
use Rattle.class_index.specs.Outlines.{outline, member_outline, outer_outline}
use Rattle.class_index.specs.Members.{HasFewMembers}
use Rattle.class_index.specs.Hierarchy.{all_of, names, place_of, super_by, directs_by, hierarchy}
use Rattle.class_index.specs.Places.{IsPlaces}
use Rattle.class_index.specs.Indexed.{IsAll, IsIndex}
use Rattle.class_index.specs.Least.{IsIn, IsLeast}
use Rattle.class_index.specs.Supers.{lacks, missing_by, missing, Returns, IsWhole}
use Rattle.class_index.specs.Faults.{IsFaultOf, IsMissingFault}
use Rattle.class_index.proofs.PlaceLemmas.{built_hierarchy, built_supers}

missing_is : (classes : List Outline) → missing classes ≡ missing_by (place_of (names (all_of classes))) (length classes) classes
unfolding missing
missing_is classes = refl

pub missing_found : (own : ℕ) (all : List Outline) (find : List ℕ → Option ℕ) → IsAll own all → IsPlaces 0 (names all) find
    → missing_by find own (take own all) ≡ missing (take own all)
missing_found own all find is places =
    let classes = take own all in
    let given : List (List ℕ) = filter_map (λ (o : Outline). o.super_class) classes in
    filter_agree (λ name. lacks own (find name)) (λ name. lacks own (place_of (names all) name)) (λ name. ap (lacks own) (places name)) given
    ∙ ap (λ (others : List Outline). missing_by (place_of (names others)) own classes) is.external
    ∙ ap (λ n. missing_by (place_of (names (all_of classes))) n classes) (sym (length-take-le own all is.within))
    ∙ sym (missing_is classes)

pub index_is : (own : ℕ) (all : List Outline) (find : List ℕ → Option ℕ) (found : List (Option ℕ)) (graph above : List (List ℕ)) → IsAll own all → length all < 2 ^ 32 → IsPlaces 0 (names all) find
    → found ≡ map (super_by find) all → graph ≡ map (directs_by find) all → IsClosed graph above → IsIndex own all find found above
index_is own all find found graph above is few places e f closed = record {
  classes = is;
  few = few;
  places = places;
  supers = built_supers all find found places e;
  closed = subst (λ (g : List (List ℕ)). IsClosed g above) (built_hierarchy all find graph places f) closed;
}

pub whole : (own : ℕ) (all : List Outline) (find : List ℕ → Option ℕ) (graph above : List (List ℕ)) → IsAll own all → IsPlaces 0 (names all) find → missing_by find own (take own all) ≡ []
    → graph ≡ map (directs_by find) all → IsClosed graph above → IsWhole (take own all)
whole own all find graph above is places none f closed = record {
  supers = sym (missing_found own all find is places) ∙ none;
  ends = λ name r. ended (subst (λ (others : List Outline). Returns others name) (sym is.external) r);
}
  where
    ended : {name : List ℕ} → Returns all name → ⊥
    ended r = closed.ends r.0 (rw (built_hierarchy all find graph places f) r.2)

pub missing_fault : (own : ℕ) (all : List Outline) (find : List ℕ → Option ℕ) (fault : IndexFault) → IsAll own all → IsPlaces 0 (names all) find
    → IsMissingFault (missing_by find own (take own all)) fault → IsFaultOf (take own all) fault
missing_fault own all find (MissingSuper name) is places least =
    subst (λ (found : List (List ℕ)). IsLeast (λ n. IsIn n found) name) (missing_found own all find is places) least
missing_fault own all find (CyclicSuper name) is places none = absurd none
missing_fault own all find Memory is places m = tt

pub cyclic_fault : (own : ℕ) (all : List Outline) (find : List ℕ → Option ℕ) (name : List ℕ) → IsAll own all → IsPlaces 0 (names all) find → missing_by find own (take own all) ≡ []
    → IsLeast (Returns all) name → IsFaultOf (take own all) (CyclicSuper name)
cyclic_fault own all find name is places none least =
    (sym (missing_found own all find is places) ∙ none, subst (λ (others : List Outline). IsLeast (Returns others) name) is.external least)

pub returning_is : (all : List Outline) (find : List ℕ → Option ℕ) (graph : List (List ℕ)) (marks : List Bool) → IsPlaces 0 (names all) find → graph ≡ map (directs_by find) all
    → AreReturning graph (length graph) marks → AreReturning (hierarchy all) (length (hierarchy all)) marks
returning_is all find graph marks places f are = subst (λ (g : List (List ℕ)). AreReturning g (length g) marks) (built_hierarchy all find graph places f) are

-- the outlines of a program's classes and the external ones
pub all_is : (classes all : List Outline) (own : ℕ) → own ≡ length classes → all ≡ all_of classes → All HasFewMembers all → (take own all ≡ classes) × IsAll own all
unfolding all_of
all_is classes all own e f few =
    let front : take own all ≡ classes = ap (take own) f ∙ take_at classes (map outer_outline externals) own (sym e) in
    let count : length all ≡ length classes + length (map outer_outline externals) = ap length f ∙ length-append classes (map outer_outline externals) in (
      front,
      record {
        within = omega (arith, count, e);
        external = f ∙ ap (λ (xs : List Outline). xs ++ map outer_outline externals) (sym front);
        members = few;
      },
    )

few_of_class : (c : Class) → Shaped c → HasFewMembers (outline c)
few_of_class c shaped = record {
  fields = rw (length-map c.fields (member_outline c.pool)) shaped.fields.each.0;
  methods = rw (length-map c.methods (member_outline c.pool)) shaped.methods.each.0;
}

few_of_row : (row : External) → HasFewMembers (outer_outline row)
few_of_row row = record { fields = omega arith; methods = omega arith }

-- the members of shaped classes are few
pub few_members : (classes : List Class) (all : List Outline) → All Shaped classes → all ≡ all_of (map outline classes) → All HasFewMembers all
unfolding all_of
few_members classes all shaped e =
    rw e (All-append HasFewMembers (map outline classes) (map outer_outline externals)
    (All-map HasFewMembers outline classes (All-weaker Shaped (λ c. HasFewMembers (outline c)) few_of_class classes shaped))
    (All-map HasFewMembers outer_outline externals (λ k d h. few_of_row (get_or externals k d))))
