-- A list as an array of JSON.
use Rattle.std.proofs.Common.{◌≡◌, List, [], ◌∷◌, refl, ap₂}
use Rattle.serde_json.specs.Data.{Data, Items, item}
use Rattle.serde_json.specs.View.{items_of}

same_items : (x y : Data) (xs ys : Items) → item x xs ≡ item y ys → (x ≡ y) × (xs ≡ ys)
same_items x y xs ys e = ((cc), (cc))

pub items_of-injective : (xs ys : List Data) → items_of xs ≡ items_of ys → xs ≡ ys
items_of-injective [] [] e = refl
items_of-injective [] (y ∷ ys) e = absurd (cc)
items_of-injective (x ∷ xs) [] e = absurd (cc)
items_of-injective (x ∷ xs) (y ∷ ys) e =
    let both = same_items x y (items_of xs) (items_of ys) e in
    ap₂ (λ (d : Data) (ds : List Data). d ∷ ds) both.0 (items_of-injective xs ys both.1)
