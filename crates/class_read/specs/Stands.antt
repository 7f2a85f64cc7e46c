-- Where attributes stand, and what was read there.
use Rattle.std.specs.Prelude.{◌≡◌, ℕ, Bool, List, map, codes, bytes_eq}
use Rattle.std.specs.List.{list_any}
use Rattle.class_model.specs.declared.constant_pool.Pool.{Pool}
use Rattle.class_model.specs.Attributes.{Place, in_class, in_field, in_method, in_code, attribute_name}
use Rattle.class_text.specs.Attributes.{own_name}
use Rattle.class_read.specs.declared.stands.Stand.{Stand}
use Rattle.class_read.specs.declared.stands.Stand.TheVariants as stands
use Rattle.class_read.specs.declared.stands.SeenAttributes.{SeenAttributes}

abbrev pub stand_of : Stand → Place
stand_of stands.Class = in_class
stand_of (stands.Field descriptor) = in_field descriptor.now
stand_of stands.Method = in_method
stand_of stands.Code = in_code

-- an attribute of a name is among others
abbrev pub is_among : List (List ℕ) → List ℕ → Bool
is_among names name = list_any (λ n. bytes_eq n name) names

-- The two marks say which known names were read.
pub record Keeps (pool : Pool) (place : Place) (found : SeenAttributes) : Type 0 where
  pub own : found.own ≡ is_among (map (attribute_name pool) found.list) (own_name place)
  pub annotations : found.annotations ≡ is_among (map (attribute_name pool) found.list) (codes "RuntimeVisibleAnnotations")
