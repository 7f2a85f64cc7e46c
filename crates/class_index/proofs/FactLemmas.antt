-- Fields by their numbers.
use Rattle.std.proofs.Common.{◌≡◌, ℕ, ◌+◌, ◌<◌, true, false, List, [], ◌++◌, length, Option, Some, None, option_and_then, slice_get, sym, ◌∙◌, refl, add-one}
use Rattle.std.specs.Prelude.{IsSome}
use Rattle.std.proofs.lemmas.Option.{slice_get_within}
use Rattle.class_model.specs.declared.identifiers.ClassId.{ClassId}
use Rattle.class_model.specs.declared.identifiers.ClassId.TheVariants.{Own, Outer}
use Rattle.class_model.specs.declared.identifiers.MemberId.{MemberId}
use Rattle.class_index.specs.declared.outline.Outline.{Outline}
use Rattle.class_index.specs.Hierarchy.{all_of, id_of, IsClassId}
use Rattle.class_index.specs.Declarations.{field_named, IsFieldId}
use Rattle.class_index.specs.Facts.{outline_at}
use Rattle.class_index.specs.Below.{first_below, if_below}
use Rattle.class_index.proofs.DeclarationLemmas.{front_of}

pub some_of : {A : Type 0} (o : Option A) → IsSome o → (x : A) × (o ≡ Some x)
some_of None t = let no : false ≡ true = t in cc
some_of (Some x) t = (x, refl)

some_through : {A B : Type 0} (f : A → Option B) (o : Option A) → IsSome (option_and_then f o) → (x : A) × (o ≡ Some x)
some_through f None t = let no : false ≡ true = t in cc
some_through f (Some x) t = (x, refl)

-- a field that is there stands in a class that is there
pub field_class : (classes : List Outline) (id : MemberId) → IsFieldId classes id → IsClassId classes id.class
field_class classes id h = by_class id.class refl
  where
    by_class : (k : ClassId) → id.class ≡ k → IsClassId classes id.class
    by_class (Own class) e =
        let found = some_through (λ (o : Outline). slice_get o.fields id.at) (slice_get classes class) (rw e at h) in
        let within : class < length classes = slice_get_within classes class found.0 found.1 in
        rw e within
    by_class (Outer row) e = let no : false ≡ true = rw e at h in cc

-- it is the field of its number in that class
pub field_read : (classes : List Outline) (id : MemberId) (o : Outline) → IsFieldId classes id → outline_at classes id.class ≡ Some o → field_named classes id ≡ slice_get o.fields id.at
field_read classes id o h read = by_class id.class refl
  where
    by_class : (k : ClassId) → id.class ≡ k → field_named classes id ≡ slice_get o.fields id.at
    by_class (Own class) e =
        let found = some_through (λ (x : Outline). slice_get x.fields id.at) (slice_get classes class) (rw e at h) in
        let within : class < length classes = slice_get_within classes class found.0 found.1 in
        let there : slice_get (all_of classes) class ≡ Some o = rw e at read in
        let own : slice_get classes class ≡ Some o = sym (front_of classes class within) ∙ there in
        rw (e, own) refl
    by_class (Outer row) e = let no : false ≡ true = rw e at h in cc

pub field_within : (classes : List Outline) (id : MemberId) (o : Outline) → IsFieldId classes id → outline_at classes id.class ≡ Some o → id.at < length o.fields
field_within classes id o h read =
    let found = some_of (field_named classes id) h in
    slice_get_within o.fields id.at found.0 (sym (field_read classes id o h read) ∙ found.1)

-- one more class
pub below_more : (classes : List Outline) (high : ClassId) (n : ℕ) → first_below classes high (n + 1) ≡ first_below classes high n ++ if_below classes high (id_of (length classes) n)
unfolding first_below
below_more classes high n = rw (add-one n) refl

pub below_none : (classes : List Outline) (high : ClassId) → first_below classes high 0 ≡ []
unfolding first_below
below_none classes high = refl
