-- Puts and removals one after another, at a place in between.
use Rattle.std.proofs.Common.{◌≡◌, ℕ, suc, ◌+◌, ◌<◌, ◌⊎◌, inl, inr, List, [], ◌∷◌, ◌++◌, length, take, drop, map, get_or, Option, Result, Ok, Err, OnErr, refl, sym, ap, subst, ◌∙◌}
use Rattle.std.proofs.Math.Seq.{drop-cons}
use Rattle.std.proofs.lemmas.List.{take_more, map-append, take-append-drop}
use Rattle.io_traits.specs.Files.{File, Files, put_in, take_out, LeftByPut, LeftByRemove}
use Rattle.out_store.specs.Changes.{puts_in, takes_out, LeftByPuts, LeftByRemoves}

pub puts_in-append : (xs ys : List File) (content : Option Files) → puts_in (xs ++ ys) content ≡ puts_in ys (puts_in xs content)
puts_in-append [] ys content = refl
puts_in-append (x ∷ xs) ys content = puts_in-append xs ys (put_in x.0 x.1 content)

pub takes_out-append : (xs ys : List (List ℕ)) (content : Option Files) → takes_out (xs ++ ys) content ≡ takes_out ys (takes_out xs content)
takes_out-append [] ys content = refl
takes_out-append (x ∷ xs) ys content = takes_out-append xs ys (take_out x content)

-- what the first puts leave the whole row leaves
pub left_by_front : (xs ys : List File) (old new : Option Files) → LeftByPuts xs old new → LeftByPuts (xs ++ ys) old new
left_by_front [] [] old new left = left
left_by_front [] (y ∷ ys) old new left = inl (inl left)
left_by_front (x ∷ xs) ys old new (inl here) = inl here
left_by_front (x ∷ xs) ys old new (inr later) = inr (left_by_front xs ys (put_in x.0 x.1 old) new later)

-- and what the later ones leave where the first were made
pub left_by_back : (xs ys : List File) (old new : Option Files) → LeftByPuts ys (puts_in xs old) new → LeftByPuts (xs ++ ys) old new
left_by_back [] ys old new left = left
left_by_back (x ∷ xs) ys old new left = inr (left_by_back xs ys (put_in x.0 x.1 old) new left)

-- where one of the puts was refused
pub left_at_put : (xs : List File) (x : File) (ys : List File) (old new : Option Files) → LeftByPut x.0 x.1 (puts_in xs old) new → LeftByPuts (xs ++ x ∷ ys) old new
left_at_put xs x ys old new left = left_by_back xs (x ∷ ys) old new (inl left)

pub left_at_remove : (xs : List (List ℕ)) (x : List ℕ) (ys : List (List ℕ)) (old new : Option Files) → LeftByRemove x (takes_out xs old) new → LeftByRemoves (xs ++ x ∷ ys) old new
left_at_remove [] x ys old new left = inl left
left_at_remove (y ∷ xs) x ys old new left = inr (left_at_remove xs x ys (take_out y old) new left)

-- ---- a loop over puts, or over removals

-- the list, cut before an element
pub cut_before : {X : Type 0} (xs : List X) (k : ℕ) (x : X) → k < length xs → x ≡ get_or xs k x → take k xs ++ x ∷ drop (suc k) xs ≡ xs
cut_before xs k x within is = ap (λ y. take k xs ++ y ∷ drop (suc k) xs) is ∙ ap (λ r. take k xs ++ r) (sym (drop-cons xs k x within)) ∙ take-append-drop k xs

module _ (xs : List (List ℕ)) (k : ℕ) (x : List ℕ) (within : k < length xs) (is : x ≡ get_or xs k x) (old : Option Files) where
  pub removed_more : takes_out (take (k + 1) xs) old ≡ take_out x (takes_out (take k xs) old)
  removed_more = ap (λ (ys : List (List ℕ)). takes_out ys old) (take_more xs k x within ∙ ap (λ y. take k xs ++ y ∷ []) (sym is)) ∙ takes_out-append (take k xs) (x ∷ []) old

  pub removed_left : (mid new : Option Files) → mid ≡ takes_out (take k xs) old → LeftByRemove x mid new → LeftByRemoves xs old new
  removed_left mid new before left =
      subst (λ (ys : List (List ℕ)). LeftByRemoves ys old new) (cut_before xs k x within is)
      (left_at_remove (take k xs) x (drop (suc k) xs) old new (subst (λ m. LeftByRemove x m new) before left))

module _ (xs : List File) (k : ℕ) (x : File) (within : k < length xs) (is : x ≡ get_or xs k x) (f : File → File) (old : Option Files) where
  pub put_more : puts_in (map f (take (k + 1) xs)) old ≡ put_in (f x).0 (f x).1 (puts_in (map f (take k xs)) old)
  put_more =
      ap (λ (ys : List File). puts_in (map f ys) old) (take_more xs k x within ∙ ap (λ y. take k xs ++ y ∷ []) (sym is))
      ∙ ap (λ (ys : List File). puts_in ys old) (map-append f (take k xs) (x ∷ []))
      ∙ puts_in-append (map f (take k xs)) (f x ∷ []) old

  pub put_left : (mid new : Option Files) → mid ≡ puts_in (map f (take k xs)) old → LeftByPut (f x).0 (f x).1 mid new → LeftByPuts (map f xs) old new
  put_left mid new before left =
      subst (λ (ys : List File). LeftByPuts (map f ys) old new) (cut_before xs k x within is)
      (subst (λ (ys : List File). LeftByPuts ys old new) (sym (map-append f (take k xs) (x ∷ drop (suc k) xs)))
      (left_at_put (map f (take k xs)) (f x) (map f (drop (suc k) xs)) old new (subst (λ m. LeftByPut (f x).0 (f x).1 m new) before left)))

-- ---- what a result says where it is an error

pub on_err : {T E P : Type 0} (r : Result T E) → P → OnErr r P
on_err (Ok x) p = tt
on_err (Err e) p = p

-- nothing was put
pub not_begun : (xs : List File) (old : Option Files) → LeftByPuts xs old old
not_begun [] old = refl
not_begun (x ∷ xs) old = inl (inl refl)

-- all was put
pub all_put : (xs : List File) (old new : Option Files) → new ≡ puts_in xs old → LeftByPuts xs old new
all_put [] old new is = is
all_put (x ∷ xs) old new is = inr (all_put xs (put_in x.0 x.1 old) new is)

-- a row of puts in two parts
pub left_split : (xs ys : List File) (old new : Option Files) → LeftByPuts (xs ++ ys) old new → LeftByPuts xs old new ⊎ LeftByPuts ys (puts_in xs old) new
left_split [] ys old new left = inr left
left_split (x ∷ xs) ys old new (inl here) = inl (inl here)
left_split (x ∷ xs) ys old new (inr later) = elim (left_split xs ys (put_in x.0 x.1 old) new later) [
  | inl front ↦ inl (inr front)
  | inr back ↦ inr back
]
