-- The least name to which a chain returns.
use Rattle.std.proofs.Common.{◌≡◌, ℕ, ◌<◌, Bool, true, List, [], length, Option, Some, None, IsSome, slice_get, get_or, Bor, refl, sym, subst, arith}
use Rattle.std.specs.Option.{option_copied}
use Rattle.place_graph.proofs.Searched.{marked_within}
use Rattle.std.proofs.lemmas.Option.{slice_get_within, slice_get-get_or}
use Rattle.std.proofs.lemmas.List.{length-map}
use Rattle.place_graph.specs.Searches.{AreReturning, is_marked}
use Rattle.class_index.specs.declared.outline.Outline.{Outline}
use Rattle.class_index.specs.Hierarchy.{names, hierarchy}
use Rattle.class_index.specs.Least.{IsIn, IsLeast, least_from}
use Rattle.class_index.specs.Supers.{Returns, marked_names}
use Rattle.class_index.proofs.Leasts.{least_is, least_none, marked_at, at_marked}
use Rattle.class_index.proofs.PlaceLemmas.{length-hierarchy}

pub least_returns : (all : List Outline) (marks : List Bool) (name : List ℕ) → AreReturning (hierarchy all) (length (hierarchy all)) marks
    → least_from None (marked_names all marks) ≡ Some name → IsLeast (Returns all) name
least_returns all marks name are e =
    let is = least_is (marked_names all marks) name e in
    let found = marked_at all marks name is.among in
    record {
      among = (found.0, found.1, are.only found.0 found.2);
      least = λ other r. is.least other (at_marked all marks r.0 other r.1 (are.each r.0 (within r.0 other r.1) r.2));
    }
  where
    within : (at : ℕ) (other : List ℕ) → slice_get (names all) at ≡ Some other → at < length (hierarchy all)
    within at other f =
        omega (arith, slice_get_within (names all) at other f, length-map all (λ (o : Outline). o.name), length-hierarchy all)

-- a marked class has a name, so there is a least one
pub some_least : (all : List Outline) (marks : List Bool) (place : ℕ) (o : Option (Bor (List ℕ))) → AreReturning (hierarchy all) (length (hierarchy all)) marks → is_marked marks place ≡ true
    → option_copied o ≡ least_from None (marked_names all marks) → IsSome o
some_least all marks place (Some x) are t e = refl
some_least all marks place None are t e =
    let none : marked_names all marks ≡ [] = least_none (marked_names all marks) (sym e) in
    let within : place < length (names all) = omega (arith, marked_within marks place t, are.all, length-hierarchy all, length-map all (λ (o : Outline). o.name)) in
    let in_list : IsIn (get_or (names all) place []) (marked_names all marks) = at_marked all marks place (get_or (names all) place []) (slice_get-get_or (names all) place [] within) t in
    absurd (subst (IsIn (get_or (names all) place [])) none in_list)
