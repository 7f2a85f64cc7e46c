-- Subtypes of subtypes.
use Rattle.std.proofs.Common.{ℕ, List, sym, ◌∙◌, subst, inl, inr}
use Rattle.class_model.specs.declared.identifiers.ClassId.{ClassId}
use Rattle.place_graph.specs.Graphs.{Reaches}
use Rattle.place_graph.proofs.Searched.{reaches_on}
use Rattle.class_index.specs.declared.outline.Outline.{Outline}
use Rattle.class_index.specs.Hierarchy.{all_of, hierarchy, place}
use Rattle.class_index.specs.Subtyping.{IsSubtype}

pub joined : (classes : List Outline) (low middle high : ClassId) → IsSubtype classes low middle → IsSubtype classes middle high → IsSubtype classes low high
joined classes low middle high (inl e) (inl f) = inl (e ∙ f)
joined classes low middle high (inl e) (inr r) = inr (subst (λ (p : ℕ). Reaches (hierarchy (all_of classes)) p (place classes high)) (sym e) r)
joined classes low middle high (inr r) (inl f) = inr (subst (λ (p : ℕ). Reaches (hierarchy (all_of classes)) (place classes low) p) f r)
joined classes low middle high (inr r) (inr s) = inr (reaches_on (hierarchy (all_of classes)) (place classes low) (place classes middle) (place classes high) r s)
