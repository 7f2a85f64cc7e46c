-- What a shaped class says of its methods: how much code and how many frames they have, and that their texts are names.
use Rattle.std.proofs.Common.{◌≡◌, ℕ, ◌^◌, ◌<◌, ◌≤◌, Bool, true, List, [], ◌∷◌, length, Option, Some, None, unwrap_or, IsTrue, refl, subst, arith, lit<}
use Rattle.std.specs.Prelude.{All}
use Rattle.std.specs.List.{AllByRecursion}
use Rattle.std.proofs.lemmas.List.Elements.{All-from_recursion}
use Rattle.class_model.specs.declared.attribute_forms.Attribute.{Attribute, out-Attribute}
use Rattle.class_model.specs.declared.attribute_forms.Attribute.TheOpen.{Attribute-F}
use Rattle.class_model.specs.declared.class_file.Class.{Class}
use Rattle.class_model.specs.declared.class_file.Member.{Member}
use Rattle.class_model.specs.declared.constant_pool.Pool.{Pool}
use Rattle.class_model.specs.declared.stack_map.StackFrame.{StackFrame}
use Rattle.class_model.specs.Layers.{AttributeLayer}
use Rattle.class_model.specs.ModifiedUtf8.{IsName}
use Rattle.class_model.specs.ClassNames.{is_unqualified, is_method_name}
use Rattle.class_model.specs.Descriptors.{method_type, is_method_descriptor}
use Rattle.class_model.specs.Constants.{text_at, is_some_that, IsPool}
use Rattle.class_model.specs.Attributes.{in_method, in_code, HasForm, IsCodeAttribute, IsCodeAttributes, IsAttribute}
use Rattle.class_model.specs.Shape.{IsMethod, Shaped, most_slots, name_text, descriptor_text}
use Rattle.class_model.proofs.NameOfClass.{text_at-IsText}
use Rattle.class_code.specs.Codes.{stack_map_in, frames_or, code_in, code_or, CodeParts}

pub record IsSized (c : CodeParts) : Type 0 where
  pub some : 0 < length c.code
  pub short : length c.code ≤ 65535
  pub frames : length (stack_map_in c.attributes) < 2 ^ 16

frames_fit : (pool : Pool) (layer : AttributeLayer) (later : List StackFrame) → HasForm (λ inner. ⊥) pool in_code layer → length later < 2 ^ 16
    → length (frames_or layer later) < 2 ^ 16
frames_fit pool (Attribute-F.StackMap name frames) later form rest = form.1.0
frames_fit pool _ later form rest = rest

map_fits : (pool : Pool) (attributes : List Attribute) → AllByRecursion (IsCodeAttribute pool) attributes → length (stack_map_in attributes) < 2 ^ 16
unfolding stack_map_in
map_fits pool [] all = lit< tt
map_fits pool (a ∷ attributes) all = frames_fit pool (out-Attribute a) (stack_map_in attributes) all.0.form (map_fits pool attributes all.1)

layer_sized : (pool : Pool) (layer : AttributeLayer) (later : Option CodeParts) (c : CodeParts) → HasForm (IsCodeAttributes pool) pool in_method layer
    → (later ≡ Some c → IsSized c) → code_or layer later ≡ Some c → IsSized c
layer_sized pool (Attribute-F.Code name max_stack max_locals code table inner) later c form rest e =
    let parts : CodeParts = record { max_stack = max_stack; max_locals = max_locals; code = code; table = table; attributes = inner } in
    let same : parts ≡ c = cc in
    subst IsSized same (record { some = form.1.some; short = form.1.short; frames = map_fits pool inner form.1.attributes.each.1 })
layer_sized pool _ later c form rest e = rest e

among : (pool : Pool) (attributes : List Attribute) (c : CodeParts) → AllByRecursion (IsAttribute pool in_method) attributes → code_in attributes ≡ Some c → IsSized c
unfolding code_in
among pool [] c all e = cc
among pool (a ∷ attributes) c all e =
    layer_sized pool (out-Attribute a) (code_in attributes) c all.0.form (among pool attributes c all.1) e

pub code_in-IsSized : (pool : Pool) (m : Member) (c : CodeParts) → IsMethod pool m → code_in m.attributes ≡ Some c → IsSized c
code_in-IsSized pool m c is e = among pool m.attributes c is.attributes.each.1 e

filled_name : (name : List ℕ) → is_method_name name ≡ true → 0 < length name
unfolding is_method_name is_unqualified
filled_name [] e = cc
filled_name (b ∷ name) e = omega arith

filled_descriptor : (most : ℕ) (bytes : List ℕ) → is_method_descriptor most bytes ≡ true → 0 < length bytes
unfolding is_method_descriptor method_type
filled_descriptor most [] e = cc
filled_descriptor most (b ∷ bytes) e = omega arith

-- a text of a pool that passes a test which the empty text doesn't
text_is_name : (pool : Pool) (n : ℕ) (test : List ℕ → Bool) → IsPool pool → ((bytes : List ℕ) → test bytes ≡ true → 0 < length bytes)
    → IsTrue (is_some_that test (text_at pool n)) → IsName (unwrap_or (text_at pool n) [])
text_is_name pool n test p filled is = go (text_at pool n) refl is
  where
    go : (found : Option (List ℕ)) → text_at pool n ≡ found → IsTrue (is_some_that test found) → IsName (unwrap_or found [])
    go None at t = cc
    go (Some bytes) at t =
        let text = text_at-IsText pool n bytes p at in record { some = filled bytes t; short = omega arith; text = text.text }

pub name_text-IsName : (c : Class) (m : Member) → Shaped c → IsMethod c.pool m → IsName (name_text c.pool m)
name_text-IsName c m s is = text_is_name c.pool m.name is_method_name s.pool filled_name is.name

pub descriptor_text-IsName : (c : Class) (m : Member) → Shaped c → IsMethod c.pool m → IsName (descriptor_text c.pool m)
descriptor_text-IsName c m s is =
    text_is_name c.pool m.descriptor (is_method_descriptor (most_slots m.flags)) s.pool (filled_descriptor (most_slots m.flags)) is.descriptor

pub all_methods : (c : Class) → Shaped c → All (IsMethod c.pool) c.methods
all_methods c s = All-from_recursion (IsMethod c.pool) c.methods s.methods.each.1
