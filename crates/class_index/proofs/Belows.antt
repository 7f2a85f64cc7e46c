-- What is below a class, by marks.
use Rattle.std.proofs.Common.{◌≡◌, ℕ, Bool, true, false, List, length, map, take, refl, sym, ◌∙◌, ap, subst}
use Rattle.std.proofs.lemmas.Bool.{eq-eqb, ne_eqb}
use Rattle.std.specs.Prelude.{Option}
use Rattle.class_model.specs.declared.identifiers.ClassId.{ClassId}
use Rattle.place_graph.specs.Graphs.{is_among, beyond}
use Rattle.place_graph.specs.Orders.{IsClosed}
use Rattle.place_graph.specs.Searches.{is_marked, IsReaching}
use Rattle.class_index.specs.declared.outline.Outline.{Outline}
use Rattle.class_index.specs.Hierarchy.{all_of, names, directs_by, hierarchy, place, id_of}
use Rattle.class_index.specs.Below.{is_subtype}
use Rattle.class_index.specs.Indexed.{IsAll}
use Rattle.class_index.specs.Places.{IsPlaces}
use Rattle.class_index.proofs.Inherits.{place_of_id}
use Rattle.class_index.proofs.PlaceLemmas.{built_hierarchy}
use Rattle.class_index.proofs.Questions.{all_are}

both : (a b : Bool) → (a ≡ true → b ≡ true) → (b ≡ true → a ≡ true) → a ≡ b
both true b f g = sym (f refl)
both false true f g = g refl
both false false f g = refl

-- the graph that was built is the hierarchy
pub graph_is : (own : ℕ) (all classes lent : List Outline) (find : List ℕ → Option ℕ) (graph row : List (List ℕ)) → IsAll own all → take own all ≡ classes → IsPlaces 0 (names all) find
    → lent ≡ all_of classes → graph ≡ map (directs_by find) lent → row ≡ graph → row ≡ hierarchy (all_of classes)
graph_is own all classes lent find graph row is e places same made read =
    read ∙ built_hierarchy (all_of classes) find graph (subst (λ (xs : List Outline). IsPlaces 0 (names xs) find) (all_are own all classes is e) places) (made ∙ ap (map (directs_by find)) same)

pub below_itself : (classes : List Outline) (high : ClassId) (at : ℕ) → place classes high ≡ at → true ≡ is_subtype classes (id_of (length classes) at) high
below_itself classes high at e = rw (place_of_id classes at, eq-eqb at (place classes high) (sym e)) refl

pub below_by_marks : (own : ℕ) (all classes : List Outline) (above : List (List ℕ)) (high : ClassId) (at : ℕ) (marks : List Bool) (answer : Bool) → IsAll own all → take own all ≡ classes
    → IsClosed (hierarchy all) above → IsReaching (hierarchy (all_of classes)) (place classes high) marks → (place classes high ≡ at → ⊥) → answer ≡ is_marked marks at
    → answer ≡ is_subtype classes (id_of (length classes) at) high
below_by_marks own all classes above high at marks answer is e closed marked differ read =
    let here : IsClosed (hierarchy (all_of classes)) above = subst (λ (xs : List Outline). IsClosed (hierarchy xs) above) (all_are own all classes is e) closed in
    let same : is_marked marks at ≡ is_among (place classes high) (beyond (hierarchy (all_of classes)) at) =
    both (is_marked marks at) (is_among (place classes high) (beyond (hierarchy (all_of classes)) at))
    (λ t. here.reached at (place classes high) (marked.only at t)) (λ t. marked.each at (here.only at (place classes high) t)) in
    rw (place_of_id classes at, ne_eqb at (place classes high) (λ s. differ (sym s))) (read ∙ same)
