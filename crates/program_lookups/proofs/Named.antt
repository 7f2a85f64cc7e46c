-- Methods, flags and classes by name.
use Rattle.std.proofs.Common.{◌≡◌, ℕ, ◌+◌, ◌<◌, ◌≤◌, List, length, refl, sym, ◌∙◌, arith}
use Rattle.std.specs.Prelude.{nat_lt, true, Option, Some, None, IsSome, option_map, unwrap_or, slice_get}
use Rattle.std.proofs.lemmas.Bool.Decides.{nat_tests}
use Rattle.std.proofs.lemmas.Option.{slice_get-map, slice_get_past, slice_get_within}
use Rattle.jvm_tables.specs.Externals.{External, externals}
use Rattle.class_model.specs.declared.identifiers.ClassId.TheVariants.{Own, Outer}
use Rattle.class_model.specs.declared.identifiers.MemberId.{MemberId}
use Rattle.class_index.specs.declared.outline.Outline.{Outline}
use Rattle.class_index.specs.Declarations.{Declaration, method_at, IsMethodId}
use Rattle.class_index.specs.Hierarchy.{all_of}
use Rattle.class_index.specs.Naming.{own_method, outer_method, reference, flags_of, with_texts, named}
use Rattle.class_index.specs.Subtyping.{class_name}
use Rattle.class_index.proofs.DeclarationLemmas.{front_of, back_of}
use Rattle.native_model.specs.Lists.{fixed_list}
use Rattle.program_lookups.specs.Names.{name_of, declared_by, method_name, no_method}

pub flags_within : (classes : List Outline) (class at : ℕ) (o : Outline) → slice_get (all_of classes) class ≡ Some o → class < length classes
    → flags_of classes class at ≡ unwrap_or (option_map (λ m. m.flags) (slice_get o.methods at)) 0
flags_within classes class at o e within =
    let own : slice_get classes class ≡ Some o = sym (front_of classes class within) ∙ e in
    rw own refl

pub flags_past : (classes : List Outline) (class at : ℕ) → length classes ≤ class → flags_of classes class at ≡ 0
flags_past classes class at past = rw (slice_get_past classes class past) refl

module _ (classes : List Outline) (id : MemberId) where
  pub own_named : (class : ℕ) → id.class ≡ Own class → IsMethodId classes id → own_method (method_name classes id) (flags_of classes class id.at) ≡ named classes id
  unfolding named
  own_named class e there = of_method (method_at classes id) there
    where
      of_method : (m : Option Declaration) → IsSome m
          → own_method (unwrap_or (option_map (declared_by classes id.class) m) no_method) (flags_of classes class id.at) ≡ with_texts classes id m
      of_method None there = cc
      of_method (Some m) there = rw e refl

  pub outer_named : (row : ℕ) (m : Declaration) (owner : List ℕ) → id.class ≡ Outer row → Some m ≡ method_at classes id → owner ≡ class_name classes id.class
      → outer_method (reference owner m.name m.descriptor) ≡ named classes id
  unfolding named
  outer_named row m owner e is name = rw (sym is, name, e) refl

row_named : (classes : List Outline) (row : ℕ) (r : External) → slice_get externals row ≡ Some r → name_of classes (Outer row) ≡ r.class
row_named classes row r e =
    let within : nat_lt row (length externals) ≡ true = grind (arith, nat_tests, slice_get_within externals row r e) in
    let at = back_of classes (length classes + row) row r refl e in
    rw (within, slice_get-map (λ (o : Outline). o.name) (all_of classes) (length classes + row), at) refl

pub fixed_list_named : (classes : List Outline) → name_of classes (Outer 56) ≡ fixed_list
unfolding externals
fixed_list_named classes = row_named classes 56 _ refl

pub ruleset names_told = (flags_within, flags_past, own_named, outer_named, fixed_list_named)
