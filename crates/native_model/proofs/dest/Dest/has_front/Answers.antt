use Rattle.std.proofs.Common.{◌≡◌, [], ◌∷◌, sym, subst, ap, ◌∙◌}
use Rattle.std.specs.Prelude.{nat_eq}
use Rattle.std.specs.List.{starts_with}
use Rattle.std.specs.List.Sorted.{IsStrictlySortedBy}
use Rattle.std.specs.Map.{keys_of}
use Rattle.tree_value.specs.Trees.{path_cmp}
use Rattle.native_model.proofs.Fronts.{from, front_none, front_first}
use Rattle.native_model.proofs.dest.Dest.has_front.Goals as goal

pub returns-in-Some : goal.returns-in-Some
returns-in-Some c =
    let sorted : IsStrictlySortedBy path_cmp (keys_of c.args.self.now) = subst (λ es. IsStrictlySortedBy path_cmp (keys_of es)) c.self.view_is c.self.invariant.2 in
    let told : from c.args.front.now c.args.self.now ≡ (c.in-Some.place.now, c.in-Some.field-0-1.now) ∷ c.next.new.self = subst (λ es. from c.args.front.now es ≡ (c.in-Some.place.now, c.in-Some.field-0-1.now) ∷ c.next.new.self) c.self.view_is (sym (c.range.ensures.between tt) ∙ c.in-Some.ensures.steps) in
    let first = front_first c.args.front.now c.args.self.now (c.in-Some.place.now, c.in-Some.field-0-1.now) c.next.new.self sorted told in
    c.starts_with.ensures.value ∙ (ap (λ l. starts_with nat_eq l c.as_slice-in-Some.result.now) c.as_slice.ensures
    ∙ (ap (λ l. starts_with nat_eq c.in-Some.place.now l) c.as_slice-in-Some.ensures ∙ sym first))

pub returns-in-None : goal.returns-in-None
returns-in-None c =
    sym (front_none c.args.front.now c.args.self.now (subst (λ es. from c.args.front.now es ≡ []) c.self.view_is (sym (c.range.ensures.between tt) ∙ c.in-None.ensures.steps.0)))
