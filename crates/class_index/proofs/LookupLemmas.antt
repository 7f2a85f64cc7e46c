-- Looking for members.
use Rattle.std.proofs.Common.{◌≡◌, ℕ, zero, suc, ◌+◌, ◌<◌, List, [], ◌∷◌, ◌++◌, length, take, get_or, Option, Some, None, refl, sym, ap, subst, arith}
use Rattle.std.specs.List.{filter_map}
use Rattle.std.specs.Option.{option_to_list, IfSome}
use Rattle.std.proofs.lemmas.List.Elements.{All-get_or}
use Rattle.class_index.specs.declared.members.Method.{Method}
use Rattle.class_index.specs.declared.lookup.Found.{Found}
use Rattle.class_index.specs.declared.lookup.Choice.{Choice}
use Rattle.class_index.specs.Lookups.{found_at, super_at, nearest, choice_of, AreSupers, resolved, in_interface, most_specific, first_in, the_one}
use Rattle.class_index.specs.declared.outline.Outline.{Outline}
use Rattle.class_index.specs.declared.members.Wanted.TheVariants.{Any, Overriding}
use Rattle.class_index.specs.Members.{wanted_method}
use Rattle.class_index.specs.Added.{added}
use Rattle.class_index.specs.Selection.{unless_abstract, the_only, overriding}
use Rattle.class_index.proofs.Pushes.{filter_map_more}

pub nearest_found : (find : ℕ → Option Method) (supers : List (Option ℕ)) (n place : ℕ) (m : Method) → 0 < n → find place ≡ Some m → nearest find supers n place ≡ Some (found_at place m)
unfolding nearest
nearest_found find supers zero place m h e = absurd (omega arith)
nearest_found find supers (suc n) place m h e = rw e refl

pub nearest_ends : (find : ℕ → Option Method) (supers : List (Option ℕ)) (n place : ℕ) → 0 < n → find place ≡ None → super_at supers place ≡ None → nearest find supers n place ≡ None
unfolding nearest
nearest_ends find supers zero place h e f = absurd (omega arith)
nearest_ends find supers (suc n) place h e f = rw (e, f) refl

pub nearest_on : (find : ℕ → Option Method) (supers : List (Option ℕ)) (n k place next : ℕ) → n ≡ suc k → find place ≡ None → super_at supers place ≡ Some next
    → nearest find supers n place ≡ nearest find supers k next
unfolding nearest
nearest_on find supers n k place next g e f = rw (g, e, f) refl

pub nearest_none : (find : ℕ → Option Method) (supers : List (Option ℕ)) (n place : ℕ) → n ≡ 0 → nearest find supers n place ≡ None
unfolding nearest
nearest_none find supers n place e = rw e refl

-- a superclass is among the classes
pub super_within : (n : ℕ) (supers : List (Option ℕ)) (place next : ℕ) → AreSupers n supers → place < length supers → super_at supers place ≡ Some next → next < n
super_within n supers place next all h e =
    subst (λ (s : Option ℕ). IfSome s (λ p. p < n)) e (All-get_or (λ (s : Option ℕ). IfSome s (λ p. p < n)) supers place None h all)

choice_push : (xs : List Found) (x : Found) → choice_of (xs ++ x ∷ []) ≡ added (choice_of xs) (Some x)
choice_push [] x = refl
choice_push (y ∷ []) x = refl
choice_push (y ∷ z ∷ xs) x = refl

-- one more place, which may give a method
pub choice_more : (f : ℕ → Option Found) (places : List ℕ) (i : ℕ) (before : Choice) → i < length places → before ≡ choice_of (filter_map f (take i places))
    → added before (f (get_or places i 0)) ≡ choice_of (filter_map f (take (i + 1) places))
choice_more f places i before h e =
    rw (e, filter_map_more f places i 0 h) (go (f (get_or places i 0)))
  where
    append-nil : (xs : List Found) → xs ++ [] ≡ xs
    append-nil [] = refl
    append-nil (x ∷ xs) = ap (λ ys. x ∷ ys) (append-nil xs)

    go : (o : Option Found) → added (choice_of (filter_map f (take i places))) o ≡ choice_of (filter_map f (take i places) ++ option_to_list o)
    go None = ap choice_of (sym (append-nil (filter_map f (take i places))))
    go (Some x) = sym (choice_push (filter_map f (take i places)) x)

pub resolved_nearest : (own : ℕ) (all : List Outline) (supers : List (Option ℕ)) (above : ℕ → List ℕ) (name descriptor : List ℕ) (place : ℕ) (found : Found)
    → Some found ≡ nearest (wanted_method own all name descriptor Any) supers (length all) place → Some found ≡ resolved own all supers above name descriptor place
unfolding resolved
resolved_nearest own all supers above name descriptor place found e = rw (← e) refl

pub resolved_above : (own : ℕ) (all : List Outline) (supers : List (Option ℕ)) (above : ℕ → List ℕ) (name descriptor : List ℕ) (place : ℕ) (others : List ℕ) (r : Option Found)
    → None ≡ nearest (wanted_method own all name descriptor Any) supers (length all) place → others ≡ above place
    → r ≡ the_one (most_specific (in_interface own all name descriptor) above others) (first_in (in_interface own all name descriptor) others)
    → r ≡ resolved own all supers above name descriptor place
unfolding resolved
resolved_above own all supers above name descriptor place others r e f g = rw (← e, ← f) g

pub overriding_nearest : (own : ℕ) (all : List Outline) (supers : List (Option ℕ)) (above : ℕ → List ℕ) (name descriptor : List ℕ) (place : ℕ) (found : Found)
    → Some found ≡ nearest (wanted_method own all name descriptor Overriding) supers (length all) place → unless_abstract own found ≡ overriding own all supers above name descriptor place
unfolding overriding
overriding_nearest own all supers above name descriptor place found e = rw (← e) refl

pub overriding_above : (own : ℕ) (all : List Outline) (supers : List (Option ℕ)) (above : ℕ → List ℕ) (name descriptor : List ℕ) (place : ℕ) (others : List ℕ)
    → None ≡ nearest (wanted_method own all name descriptor Overriding) supers (length all) place → others ≡ above place
    → the_only own (most_specific (in_interface own all name descriptor) above others) ≡ overriding own all supers above name descriptor place
unfolding overriding
overriding_above own all supers above name descriptor place others e f = rw (← e, ← f) refl
