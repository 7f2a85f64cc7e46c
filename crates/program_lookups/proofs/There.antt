-- What resolution and selection find is a method that is there.
use Rattle.std.proofs.Common.{◌≡◌, ℕ, List, refl, sym, subst, inl, inr}
use Rattle.std.specs.Prelude.{Bool, true, false, Option, Some, None, IsSome, option_map, option_and_then, if◌then◌else◌}
use Rattle.class_model.specs.declared.identifiers.ClassId.{ClassId}
use Rattle.class_model.specs.declared.identifiers.MemberId.{MemberId}
use Rattle.class_index.specs.declared.outline.Outline.{Outline}
use Rattle.class_index.specs.declared.select.Selected.{Selected}
use Rattle.class_index.specs.declared.select.Selected.TheVariants as selected
use Rattle.class_index.specs.Declarations.{Declaration, method_at, IsMethodId}
use Rattle.class_index.specs.Facts.{class_named}
use Rattle.class_index.specs.Resolution.{resolve_method}
use Rattle.class_index.specs.Selection.{select}
use Rattle.class_index.specs.Targets.{virtual_target, special_start, from_start, is_itself, special_of, special_target}
use Rattle.class_index.proofs.Inherits.{method_there, selection_is}
use Rattle.program_lookups.specs.Names.{AreThere, IsThere}

module _ (classes : List Outline) where
  is_there : (id : MemberId) (m : Declaration) → method_at classes id ≡ Some m → IsMethodId classes id
  is_there id m e = subst (λ (o : Option Declaration). IsSome o) (sym e) refl

  selected_there : (resolved : MemberId) (receiver : ClassId) (s : Selected) → IsMethodId classes resolved → select classes resolved receiver ≡ s → IsThere classes s
  selected_there resolved receiver selected.Abstract there e = tt
  selected_there resolved receiver selected.Tie there e = tt
  selected_there resolved receiver (selected.Found id) there e = elim (selection_is classes resolved id receiver e).is [
    | inl p ↦ subst (IsMethodId classes) (sym p.0) there
    | inr o ↦ is_there id o.method o.declared
  ]

  pub virtual_there : (receiver : ClassId) (owner name descriptor : List ℕ) → AreThere classes (virtual_target classes receiver owner name descriptor)
  virtual_there receiver owner name descriptor = of_found (resolve_method classes owner name descriptor) refl
    where
      of_found : (found : Option MemberId) → resolve_method classes owner name descriptor ≡ found → AreThere classes (option_map (λ id. select classes id receiver) found)
      of_found None e = tt
      of_found (Some id) e = selected_there id receiver (select classes id receiver) (method_there classes owner name descriptor id (sym e)) refl

  started : (caller : ClassId) (id : MemberId) (owner : Option ClassId) → IsMethodId classes id → AreThere classes (from_start classes caller id owner)
  started caller id None there = tt
  started caller id (Some class) there = selected_there id (special_start classes caller class) (select classes id (special_start classes caller class)) there refl

  of_itself : (itself : Bool) (caller : ClassId) (id : MemberId) (owner : Option ClassId) → IsMethodId classes id
      → AreThere classes (if itself then Some (selected.Found id) else from_start classes caller id owner)
  of_itself true caller id owner there = there
  of_itself false caller id owner there = started caller id owner there

  of_static : (static itself : Bool) (caller : ClassId) (id : MemberId) (owner : Option ClassId) → IsMethodId classes id
      → AreThere classes (if static then None else if itself then Some (selected.Found id) else from_start classes caller id owner)
  of_static true itself caller id owner there = tt
  of_static false itself caller id owner there = of_itself itself caller id owner there

  pub special_there : (caller : ClassId) (owner name descriptor : List ℕ) → AreThere classes (special_target classes caller owner name descriptor)
  special_there caller owner name descriptor = of_found (resolve_method classes owner name descriptor) refl
    where
      of_method : (id : MemberId) (m : Option Declaration) → IsMethodId classes id → AreThere classes (option_and_then (special_of classes caller (class_named classes owner) id) m)
      of_method id None there = tt
      of_method id (Some m) there = of_static m.method.is_static (is_itself m) caller id (class_named classes owner) there

      of_found : (found : Option MemberId) → resolve_method classes owner name descriptor ≡ found
          → AreThere classes (option_and_then (λ id. option_and_then (special_of classes caller (class_named classes owner) id) (method_at classes id)) found)
      of_found None e = tt
      of_found (Some id) e = of_method id (method_at classes id) (method_there classes owner name descriptor id (sym e))

pub ruleset targets_there = (virtual_there, special_there)
