use Rattle.std.proofs.Common.{◌≡◌, List, get_or, Option, IsSome, sym, ◌∙◌, ap, subst}
use Rattle.class_index.specs.declared.outline.Outline.{Outline}
use Rattle.class_index.specs.Hierarchy.{all_of}
use Rattle.class_index.specs.Declarations.{Declaration}
use Rattle.class_index.proofs.DeclarationLemmas.{own_within, own_read}
use Rattle.class_index.proofs.index.Index.method.Goals as goal

pub bounds-outlines-class : goal.bounds-outlines-class
bounds-outlines-class c = rw c.outlines.ensures.value (own_within c.args.self.now c.args.id c.in-Own.class c.in-Own.is c.requires)

pub own_view-requires : goal.own_view-requires
own_view-requires c =
    let read : c.index-outlines-class.result ≡ get_or (all_of c.args.self.now) c.in-Own.class c.index-outlines-class.result =
    c.index-outlines-class.is ∙ ap (λ (xs : List Outline). get_or xs c.in-Own.class c.index-outlines-class.result) c.outlines.ensures.value in
    subst (λ (o : Option Declaration). IsSome o) (sym (own_read c.args.self.now c.args.id c.in-Own.class c.index-outlines-class.result c.in-Own.is c.requires read)) c.requires

pub returns-in-Own : goal.returns-in-Own
returns-in-Own c =
    let read : c.index-outlines-class.result ≡ get_or (all_of c.args.self.now) c.in-Own.class c.index-outlines-class.result =
    c.index-outlines-class.is ∙ ap (λ (xs : List Outline). get_or xs c.in-Own.class c.index-outlines-class.result) c.outlines.ensures.value in
    c.own_view.ensures ∙ own_read c.args.self.now c.args.id c.in-Own.class c.index-outlines-class.result c.in-Own.is c.requires read
