-- Attributes, one after another.
use Rattle.std.proofs.Common.{◌≡◌, ℕ, ◌+◌, ◌<◌, ◌≤◌, List, [], ◌∷◌, length, drop, get_or, Bool, Option, None, refl, sym, ap, ◌∙◌}
use Rattle.std.proofs.lemmas.List.{drop_more, drop_all}
use Rattle.std.specs.Prelude.{◌||◌, is_some}
use Rattle.class_model.specs.declared.attribute_forms.Attribute.{Attribute, out-Attribute}
use Rattle.class_model.specs.declared.attribute_forms.Attribute.TheOpen.{Attribute-F}
use Rattle.class_model.specs.Layers.{AttributeLayer}
use Rattle.class_model.specs.Shape.{is_code_layer, has_code}
use Rattle.class_code.specs.Codes.{CodeParts, code_or, code_in, frames_or, stack_map_in}

pub code_step : (attributes : List Attribute) (i : ℕ) (a : Attribute) → i < length attributes → a ≡ get_or attributes i a
    → code_in (drop i attributes) ≡ code_or (out-Attribute a) (code_in (drop (i + 1) attributes))
unfolding code_in
code_step attributes i a h e =
    ap code_in (drop_more attributes i a h) ∙ ap (λ x. code_or (out-Attribute x) (code_in (drop (i + 1) attributes))) (sym e)

pub code_end : (attributes : List Attribute) (i : ℕ) → length attributes ≤ i → code_in (drop i attributes) ≡ None
unfolding code_in
code_end attributes i h = ap code_in (drop_all i attributes h)

pub map_step : (attributes : List Attribute) (i : ℕ) (a : Attribute) → i < length attributes → a ≡ get_or attributes i a
    → stack_map_in (drop i attributes) ≡ frames_or (out-Attribute a) (stack_map_in (drop (i + 1) attributes))
unfolding stack_map_in
map_step attributes i a h e =
    ap stack_map_in (drop_more attributes i a h) ∙ ap (λ x. frames_or (out-Attribute x) (stack_map_in (drop (i + 1) attributes))) (sym e)

pub map_end : (attributes : List Attribute) (i : ℕ) → length attributes ≤ i → stack_map_in (drop i attributes) ≡ []
unfolding stack_map_in
map_end attributes i h = ap stack_map_in (drop_all i attributes h)

layer_is_told : (layer : AttributeLayer) (later : Option CodeParts) → is_some (code_or layer later) ≡ (is_code_layer layer || is_some later)
layer_is_told (Attribute-F.Code name max_stack max_locals code table attributes) later = refl
layer_is_told _ later = refl

pub code_is_told : (attributes : List Attribute) → is_some (code_in attributes) ≡ has_code attributes
unfolding code_in
code_is_told [] = refl
code_is_told (a ∷ attributes) =
    layer_is_told (out-Attribute a) (code_in attributes) ∙ ap (λ (told : Bool). is_code_layer (out-Attribute a) || told) (code_is_told attributes)
