-- One more item of a list of which some give nothing.
use Rattle.std.proofs.Common.{◌≡◌, ℕ, ◌+◌, ◌<◌, List, [], ◌∷◌, ◌++◌, length, take, get_or, Option, Some, None, refl, sym, ◌∙◌, ap}
use Rattle.std.specs.Option.{option_to_list}
use Rattle.std.specs.List.{filter_map}
use Rattle.std.proofs.lemmas.List.{take_more}
use Rattle.std.proofs.lemmas.List.Elements.{filter_map-append}

one : {X Y : Type 0} (f : X → Option Y) (x : X) → filter_map f (x ∷ []) ≡ option_to_list (f x)
one f x = go (f x) refl
  where
    go : (o : Option _) → f x ≡ o → filter_map f (x ∷ []) ≡ option_to_list (f x)
    go None e = rw e refl
    go (Some y) e = rw e refl

pub filter_map_more : {X Y : Type 0} (f : X → Option Y) (xs : List X) (i : ℕ) (d : X) → i < length xs
    → filter_map f (take (i + 1) xs) ≡ filter_map f (take i xs) ++ option_to_list (f (get_or xs i d))
filter_map_more f xs i d h =
    ap (filter_map f) (take_more xs i d h) ∙ filter_map-append f (take i xs) (get_or xs i d ∷ []) ∙ ap (λ ys. filter_map f (take i xs) ++ ys) (one f (get_or xs i d))

pub class_more : (f : ℕ → Option (List ℕ)) (xs : List ℕ) (i : ℕ) → i < length xs → filter_map f (take (i + 1) xs) ≡ filter_map f (take i xs) ++ option_to_list (f (get_or xs i 0))
class_more f xs i h = filter_map_more f xs i 0 h

pub place_more : (f : List ℕ → Option ℕ) (xs : List (List ℕ)) (i : ℕ) (x : List ℕ) → i < length xs → x ≡ get_or xs i x → filter_map f (take (i + 1) xs) ≡ filter_map f (take i xs) ++ option_to_list (f x)
place_more f xs i x h is = filter_map_more f xs i x h ∙ ap (λ y. filter_map f (take i xs) ++ option_to_list (f y)) (sym is)
