-- What the results stand for after an opening, also where it was refused.
use Rattle.std.proofs.Common.{◌≡◌, ◌≢◌, ◌↔◌, ℕ, zero, suc, ◌⊎◌, inl, inr, List, [], ◌∷◌, Contains, Option, Some, None, IfSome, IsSome, refl, sym, ap, subst, ◌∙◌, arith}
use Rattle.std.specs.BTreeMap.{get}
use Rattle.std.specs.List.{AllByRecursion}
use Rattle.std.proofs.lemmas.Bool.{cases_eq}
use Rattle.std.proofs.lemmas.Option.{same_Some}
use Rattle.io_traits.specs.Files.{Files, remove, get as find}
use Rattle.out_entry.specs.declared.entry.Entry.{Entry}
use Rattle.out_store.specs.Changes.{takes_out}
use Rattle.out_store.specs.Generations.{Reads, IsThere, IsPublished, IsUnpublished, AreUnpublished}
use Rattle.out_store.specs.Numbers.{IsOpening, IsUsed, Knows, KnowsIn}
use Rattle.out_store.specs.Opening.{Opens, NoneTaken, IsOpened, LeftByOpening, PublishedStay}
use Rattle.out_store.specs.Standing.{Row, Stands, StandsIn}
use Rattle.out_store.specs.declared.numbers.Numbers.{Numbers}
use Rattle.out_store.proofs.CleanLaws.{all_out}
use Rattle.out_store.proofs.FileLaws.{decide, get_remove, get_remove_other}
use Rattle.out_store.proofs.OpeningLaws.{if_told, used_at_start}
use Rattle.out_store.proofs.Rows.{contains_here, contains_later, In, SafeGone, keep_removes, keep_all_out, others_left_out}
use Rattle.out_store.proofs.StandingLaws.{IsAside, reads_along, stands_remove, generation_aside}
use Rattle.tree_value.specs.Trees.{path_cmp}

-- ---- entries that read stay

-- the entries that read are among those of the files before
abbrev pub Back : Files → Files → Type 0
Back before files = (task : List ℕ) (entry : Entry) → Reads files task entry → Reads before task entry

unpublished_aside : (before files : Files) (name : List ℕ) → Back before files → IsUnpublished before name → IsAside files name
unpublished_aside before files name back (t, n, of, none) =
    subst (IsAside files) (sym of.below.1) (generation_aside files t n of.below.0 of.named of.counted (λ (entry, reads, is). none (entry, back t entry reads, is)))

back_remove : (before files : Files) (name : List ℕ) → IsUnpublished before name → Back before files → Back before (remove files name)
back_remove before files name is back t entry reads =
    back t entry (reads_along files (remove files name) t entry (get_remove_other files name _ ((unpublished_aside before files name back is).no_entry t reads.named)) reads)

-- and what they stand for
record IsLess (before : Files) (rows : List Row) (lost : List (List ℕ)) (files : Files) : Type 0 where
  stands : Stands files rows lost
  back : Back before files

less_safe : (before : Files) (rows : List Row) (lost : List (List ℕ)) (name : List ℕ) → IsUnpublished before name → SafeGone (IsLess before rows lost) name
less_safe before rows lost name is = record {
  removal = λ files less. record {
    stands = stands_remove files name rows lost (unpublished_aside before files name less.back is) less.stands;
    back = back_remove before files name is less.back;
  };
}

back_safe : (before : Files) (name : List ℕ) → IsUnpublished before name → SafeGone (Back before) name
back_safe before name is = record { removal = λ files back. back_remove before files name is back }

each_safe : (P : Files → Type 0) (Q : List ℕ → Type 0) → ((name : List ℕ) → Q name → SafeGone P name) → (gone : List (List ℕ)) → ((name : List ℕ) → Contains gone name → Q name) → AllByRecursion (SafeGone P) gone
each_safe P Q safe [] each = tt
each_safe P Q safe (name ∷ gone) each = (safe name (each name (contains_here name gone)), each_safe P Q safe gone (λ n among. each n (contains_later name n gone among)))

less_stands : (before : Files) (rows : List Row) (lost : List (List ℕ)) (content : Option Files) → In (IsLess before rows lost) content → StandsIn content rows lost
less_stands before rows lost None h = h
less_stands before rows lost (Some files) h = h.stands

pub opening_stands : (before now : Option Files) (rows : List Row) (lost : List (List ℕ)) → LeftByOpening before now → StandsIn before rows lost → StandsIn now rows lost
opening_stands None now rows lost left stands = absurd stands
opening_stands (Some files) now rows lost (gone, left, each) stands =
    less_stands files rows lost now
    (keep_removes (IsLess files rows lost) gone (each_safe (IsLess files rows lost) (IsUnpublished files) (less_safe files rows lost) gone each) (Some files) now left
    (record { stands = stands; back = λ task entry reads. reads }))

pub opening_others : (before now : Option Files) → LeftByOpening before now → PublishedStay before now
opening_others None now left = tt
opening_others (Some files) now (gone, left, each) = λ name other. others_left_out gone (Some files) now left name (λ among. other (each name among))

-- an opening that went well is a whole one
pub opened_left : (before now : Option Files) (gone : List (List ℕ)) → now ≡ takes_out gone before → IfSome before (λ files. AreUnpublished files gone) → LeftByOpening before now
opened_left None now gone is are = (gone, all_out gone None now is, tt)
opened_left (Some files) now gone is are = (gone, all_out gone (Some files) now is, are.each)

-- ---- numbers are known

-- what is there was there, and isn't gone
abbrev Still : Files → List (List ℕ) → Files → Type 0
Still before gone files = (name : List ℕ) → IsThere files name → IsThere before name × (Contains gone name → ⊥)

in_map : (P Q : Files → Type 0) → ((files : Files) → P files → Q files) → (content : Option Files) → In P content → In Q content
in_map P Q f None h = h
in_map P Q f (Some files) h = f files h

not_removed : (files : Files) (x name : List ℕ) → IsThere (remove files x) name → (name ≢ x) × IsThere files name
not_removed files x name there = elim (decide name x) as (λ _. (name ≢ x) × IsThere files name) [
  | inl same ↦ absurd (there (ap (find (remove files x)) same ∙ get_remove files x))
  | inr other ↦ (other, λ gone. there (get_remove_other files x name other ∙ gone))
]

first_or_later : (x name : List ℕ) (gone : List (List ℕ)) → Contains (x ∷ gone) name → (name ≡ x) ⊎ Contains gone name
first_or_later x name gone (zero, within, is) = inl (sym is)
first_or_later x name gone (suc k, within, is) = inr (k, omega (arith, within), is)

still_there : (gone : List (List ℕ)) (before : Files) → In (Still before gone) (takes_out gone (Some before))
still_there [] before = λ name there. (there, λ (k, within, is). omega (arith, within))
still_there (x ∷ gone) before =
    in_map (Still (remove before x) gone) (Still before (x ∷ gone))
    (λ files still name there.
    let rest = still name there in
    let kept = not_removed before x name rest.0 in
    (kept.1, λ among. elim (first_or_later x name gone among) as (λ _. ⊥) [ inl same ↦ kept.0 same | inr later ↦ rest.1 later ]))
    (takes_out gone (Some (remove before x))) (still_there gone (remove before x))

decide_opening : (numbers : Numbers) (task : List ℕ) (number : ℕ) → IsOpening numbers task number ⊎ (IsOpening numbers task number → ⊥)
decide_opening numbers task number = elim (get path_cmp numbers.opening task) as (λ o. (o ≡ Some number) ⊎ (o ≡ Some number → ⊥)) [
  | None ↦ inr (λ e. cc (e))
  | Some m ↦ elim (cases_eq m number) as (λ _. (Some m ≡ Some number) ⊎ (Some m ≡ Some number → ⊥)) [ inl same ↦ inl (ap Some same) | inr other ↦ inr (λ e. other (same_Some _ _ e)) ]
]

known : (before : Files) (numbers : Numbers) (gone : List (List ℕ)) → Opens before numbers → AreUnpublished before gone → (files : Files) → Back before files → Still before gone files → Knows files numbers
known before numbers gone opens are files back still = record {
  generations = λ task number name of there.
      let rest = still name there in
      elim (decide_opening numbers task number) as (λ _. IsUsed numbers task number) [
        | inl opening ↦ inl opening
        | inr none ↦ absurd (rest.1 (are.every name (task, number, of, λ published. none ((opens task number).1 published)) rest.0))
      ];
  entries = λ task entry reads. inl ((opens task entry.generation).1 (entry, back task entry reads, refl));
}

in_both : (P Q R : Files → Type 0) → ((files : Files) → P files → Q files → R files) → (content : Option Files) → In P content → In Q content → In R content
in_both P Q R f None h k = h
in_both P Q R f (Some files) h k = f files h k

in_known : (numbers : Numbers) (content : Option Files) → In (λ files. Knows files numbers) content → KnowsIn content numbers
in_known numbers None h = h
in_known numbers (Some files) h = h

pub opening_knows : (before now : Option Files) (numbers : Numbers) (gone : List (List ℕ)) → IsSome before → now ≡ takes_out gone before → ((files : Files) → before ≡ Some files → AreUnpublished files gone × Opens files numbers) → KnowsIn now numbers
opening_knows None now numbers gone told is of = absurd (cc (told))
opening_knows (Some files) now numbers gone told is of =
    let both = of files refl in
    subst (λ (c : Option Files). KnowsIn c numbers) (sym is)
    (in_known numbers (takes_out gone (Some files)) (in_both (Back files) (Still files gone) (λ fs. Knows fs numbers) (known files numbers gone both.1 both.0) (takes_out gone (Some files))
    (keep_all_out (Back files) gone (each_safe (Back files) (IsUnpublished files) (back_safe files) gone both.0.each) (Some files) (λ task entry reads. reads))
    (still_there gone files)))

-- ---- an opening

pub is_opened : (before now : Option Files) (numbers : Numbers) (gone : List (List ℕ)) → now ≡ takes_out gone before → ((files : Files) → before ≡ Some files → AreUnpublished files gone × Opens files numbers) → NoneTaken numbers → IsOpened before now numbers
is_opened before now numbers gone is of none = record {
  content = (gone, is, if_told before (λ files. AreUnpublished files gone) (λ files told. (of files told).0));
  used = if_told before (λ files. (task : List ℕ) (number : ℕ) → IsUsed numbers task number ↔ IsPublished files task number) (λ files told. used_at_start files numbers (of files told).1 none);
}
