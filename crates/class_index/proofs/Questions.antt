-- Answers that an index gives.
use Rattle.std.proofs.Common.{◌≡◌, ℕ, ◌+◌, ◌<◌, ◌↔◌, Bool, false, eqb, List, [], length, map, take, get_or, slice_get, unwrap_or, IsTrue, sym, ◌∙◌, ap, subst, inl, inr, arith, length-append}
use Rattle.std.proofs.lemmas.Bool.{ne_eqb}
use Rattle.std.proofs.lemmas.List.{length-map, get_or-map, get_or_read}
use Rattle.std.proofs.lemmas.Option.{unwrap_or-slice_get}
use Rattle.class_model.specs.declared.identifiers.ClassId.{ClassId}
use Rattle.class_model.specs.declared.identifiers.ClassId.TheVariants.{Own, Outer}
use Rattle.jvm_tables.specs.Externals.{externals}
use Rattle.place_graph.specs.Graphs.{is_among, Reaches, beyond}
use Rattle.place_graph.specs.Orders.{IsClosed}
use Rattle.class_index.specs.declared.outline.Outline.{Outline}
use Rattle.class_index.specs.Outlines.{outer_outline}
use Rattle.class_index.specs.Hierarchy.{all_of, names, hierarchy, place, IsClassId}
use Rattle.class_index.specs.Below.{is_subtype}
use Rattle.class_index.specs.Indexed.{IsAll}
use Rattle.class_index.specs.Subtyping.{IsSubtype, class_name}
use Rattle.class_index.proofs.PlaceLemmas.{length-hierarchy}

pub length-all_of : (classes : List Outline) → length (all_of classes) ≡ length classes + length externals
unfolding all_of
length-all_of classes = length-append classes (map outer_outline externals) ∙ ap (λ n. length classes + n) (length-map externals outer_outline)

-- a class that is there has its place among all
pub id_within : (classes : List Outline) (class : ClassId) → IsClassId classes class → place classes class < length (all_of classes)
id_within classes (Own at) h = omega (arith, h, length-all_of classes)
id_within classes (Outer row) h = omega (arith, h, length-all_of classes)

-- all are those of the classes that callers see
pub all_are : (own : ℕ) (all classes : List Outline) → IsAll own all → take own all ≡ classes → all ≡ all_of classes
all_are own all classes is e = is.external ∙ ap all_of e

pub place_within : (own : ℕ) (all classes : List Outline) (class : ClassId) (at : ℕ) → IsAll own all → take own all ≡ classes → IsClassId classes class → at ≡ place classes class → at < length all
place_within own all classes class at is e id f = rw (f, all_are own all classes is e) (id_within classes class id)

pub subtype_by : (own : ℕ) (all classes : List Outline) (above : List (List ℕ)) (low high : ClassId) (l h : ℕ) (row : List ℕ) (answer : Bool) → IsAll own all → take own all ≡ classes
    → IsClosed (hierarchy all) above → IsClassId classes low → l ≡ place classes low → h ≡ place classes high → (l ≡ h → ⊥) → row ≡ get_or above l row → answer ≡ is_among h row
    → IsTrue answer ↔ IsSubtype classes low high
subtype_by own all classes above low high l h row answer is e closed id f g differ read a = (there, back)
  where
    within : l < length (hierarchy all)
    within = omega (arith, place_within own all classes low l is e id f, length-hierarchy all)

    listed : answer ≡ is_among h (beyond (hierarchy all) l)
    listed = a ∙ ap (is_among h) (get_or_read above l row (omega (arith, within, closed.rows)) read [] ∙ closed.each l within)

    same : hierarchy all ≡ hierarchy (all_of classes)
    same = ap hierarchy (all_are own all classes is e)

    there : IsTrue answer → IsSubtype classes low high
    there t =
        let r : Reaches (hierarchy all) l h = closed.only l h (sym listed ∙ t) in
        inr (subst (λ (graph : List (List ℕ)). Reaches graph (place classes low) (place classes high)) same
        (subst (λ (p : ℕ). Reaches (hierarchy all) p (place classes high)) f (subst (λ (p : ℕ). Reaches (hierarchy all) l p) g r)))

    back : IsSubtype classes low high → IsTrue answer
    back (inl s) = absurd (differ (f ∙ s ∙ sym g))
    back (inr r) =
        let q : Reaches (hierarchy all) l h =
        subst (λ (p : ℕ). Reaches (hierarchy all) l p) (sym g) (subst (λ (p : ℕ). Reaches (hierarchy all) p (place classes high)) (sym f)
        (subst (λ (graph : List (List ℕ)). Reaches graph (place classes low) (place classes high)) (sym same) r)) in
        listed ∙ closed.reached l h q

-- the answer as the hierarchy decides it
pub subtype_value : (own : ℕ) (all classes : List Outline) (above : List (List ℕ)) (low high : ClassId) (l h : ℕ) (row : List ℕ) (answer : Bool) → IsAll own all → take own all ≡ classes
    → IsClosed (hierarchy all) above → IsClassId classes low → l ≡ place classes low → h ≡ place classes high → (l ≡ h → ⊥) → row ≡ get_or above l row → answer ≡ is_among h row
    → answer ≡ is_subtype classes low high
subtype_value own all classes above low high l h row answer is e closed id f g differ read a =
    let within : l < length (hierarchy all) = omega (arith, place_within own all classes low l is e id f, length-hierarchy all) in
    let listed : answer ≡ is_among h (beyond (hierarchy all) l) =
    a ∙ ap (is_among h) (get_or_read above l row (omega (arith, within, closed.rows)) read [] ∙ closed.each l within) in
    let apart : eqb (place classes low) (place classes high) ≡ false = ne_eqb (place classes low) (place classes high) (λ s. differ (f ∙ s ∙ sym g)) in
    let there : answer ≡ is_among (place classes high) (beyond (hierarchy (all_of classes)) (place classes low)) =
    listed ∙ ap (λ (xs : List Outline). is_among h (beyond (hierarchy xs) l)) (all_are own all classes is e)
    ∙ ap (λ (p : ℕ). is_among p (beyond (hierarchy (all_of classes)) l)) g ∙ ap (λ (p : ℕ). is_among (place classes high) (beyond (hierarchy (all_of classes)) p)) f in
    rw apart there

pub class_name_is : (own : ℕ) (all classes : List Outline) (class : ClassId) (at : ℕ) (o : Outline) → IsAll own all → take own all ≡ classes → at ≡ place classes class → at < length all
    → o ≡ get_or all at o → o.name ≡ class_name classes class
class_name_is own all classes class at o is e f within read =
    ap (λ (x : Outline). x.name) read ∙ sym (get_or-map (λ (x : Outline). x.name) all at o [] within) ∙ sym (unwrap_or-slice_get (names all) at [])
    ∙ ap (λ (xs : List Outline). unwrap_or (slice_get (names xs) at) []) (all_are own all classes is e) ∙ ap (λ p. unwrap_or (slice_get (names (all_of classes)) p) []) f
