-- What is read of the entries, and which names are loose.
use Rattle.std.proofs.Common.{◌≡◌, ◌↔◌, ℕ, zero, suc, ◌⊎◌, inl, inr, Bool, true, false, cond, not, IsTrue, List, [], ◌∷◌, ◌++◌, Contains, Option, Some, None, IfSome, refl, sym, ap, subst, ◌∙◌, arith, true≢false}
use Rattle.std.specs.BTreeMap.{get}
use Rattle.std.specs.Option.{unwrap_or}
use Rattle.std.specs.Ordering.{eq_by_cmp, is_eq}
use Rattle.std.proofs.lemmas.Cmp.{nat_list_cmp_total, tied_itself}
use Rattle.std.proofs.lemmas.List.Elements.{Contains-append_left, Contains-push}
use Rattle.std.proofs.lemmas.Map.Lookups.{exact_bytes}
use Rattle.std.proofs.lemmas.Map.Views.{tells_apart}
use Rattle.std.proofs.lemmas.Option.{same_Some}
use Rattle.io_traits.specs.Files.{Files, names}
use Rattle.io_traits.specs.Files as files
use Rattle.out_entry.specs.declared.entry.Entry.{Entry}
use Rattle.out_store.specs.Generations.{Reads, IsThere, IsPublished, IsUnpublished, AreUnpublished}
use Rattle.out_store.specs.Names.{IsOf, entry_name}
use Rattle.out_store.specs.Numbers.{IsOpening, IsUsed, last_taken}
use Rattle.out_store.specs.Opening.{Opens, NoneTaken, AreRead, Covers, IsLoose, AreLoose}
use Rattle.out_store.specs.declared.numbers.Numbers.{Numbers}
use Rattle.out_store.proofs.FileLaws.{name_from_there}
use Rattle.out_store.proofs.NameLaws.{one_generation, same_entry}
use Rattle.out_store.proofs.Rows.{contains_later}
use Rattle.out_store.proofs.StandingLaws.{one_entry}
use Rattle.tree_value.specs.Trees.{path_cmp}

pub contains_last : (xs : List (List ℕ)) (x y : List ℕ) → Contains (xs ++ y ∷ []) x → Contains xs x ⊎ (x ≡ y)
contains_last [] x y (zero, within, is) = inr (sym is)
contains_last [] x y (suc k, within, is) = absurd (omega (arith, within))
contains_last (z ∷ xs) x y (zero, within, is) = inl (zero, omega arith, is)
contains_last (z ∷ xs) x y (suc k, within, is) = elim (contains_last xs x y (k, omega (arith, within), is)) [
  | inl there ↦ inl (contains_later z x xs there)
  | inr same ↦ inr same
]

-- ---- one name after another is read

-- no entry reads under the name
pub skip : (fs : Files) (numbers : Numbers) (seen : List (List ℕ)) (name : List ℕ) → ((task : List ℕ) (entry : Entry) → Reads fs task entry → entry_name task ≡ name → ⊥) → Covers fs numbers seen → Covers fs numbers (seen ++ name ∷ [])
skip fs numbers seen name none covers task entry reads among = elim (contains_last seen (entry_name task) name among) as (λ _. IsOpening numbers task entry.generation) [
  | inl there ↦ covers task entry reads there
  | inr here ↦ absurd (none task entry reads here)
]

same_task : (t u : List ℕ) → eq_by_cmp path_cmp t u ≡ true → t ≡ u
same_task t u e = tells_apart exact_bytes t u e

itself : (t : List ℕ) → eq_by_cmp path_cmp t t ≡ true
itself t = ap is_eq (tied_itself nat_list_cmp_total t)

module _ (fs : Files) (old new : Numbers) (task : List ℕ) (entry : Entry) (reads : Reads fs task entry)
    (opening : (t : List ℕ) → get path_cmp new.opening t ≡ cond (eq_by_cmp path_cmp task t) (Some entry.generation) (get path_cmp old.opening t)) where
  here : (t : List ℕ) → eq_by_cmp path_cmp task t ≡ true → get path_cmp new.opening t ≡ Some entry.generation
  here t e = opening t ∙ ap (λ b. cond b (Some entry.generation) (get path_cmp old.opening t)) e

  elsewhere : (t : List ℕ) → eq_by_cmp path_cmp task t ≡ false → get path_cmp new.opening t ≡ get path_cmp old.opening t
  elsewhere t e = opening t ∙ ap (λ b. cond b (Some entry.generation) (get path_cmp old.opening t)) e

  pub read_more : AreRead fs old → AreRead fs new
  read_more read t n is = elim (eq_by_cmp path_cmp task t) as (λ b. eq_by_cmp path_cmp task t ≡ b → IsPublished fs t n) [
    | true ↦ λ e. (entry, subst (λ (u : List ℕ). Reads fs u entry) (same_task task t e) reads, same_Some _ _ (sym (here t e) ∙ is))
    | false ↦ λ e. read t n (sym (elsewhere t e) ∙ is)
  ] refl

  pub covers_more : (seen : List (List ℕ)) (name : List ℕ) → name ≡ entry_name task → Covers fs old seen → Covers fs new (seen ++ name ∷ [])
  covers_more seen name named covers t e reads_too among = elim (eq_by_cmp path_cmp task t) as (λ b. eq_by_cmp path_cmp task t ≡ b → IsOpening new t e.generation) [
    | true ↦ λ is.
        let same : entry ≡ e = one_entry fs t entry e (subst (λ (u : List ℕ). Reads fs u entry) (same_task task t is) reads) reads_too in
        here t is ∙ ap (λ (f : Entry). Some f.generation) same
    | false ↦ λ is. elim (contains_last seen (entry_name t) name among) as (λ _. IsOpening new t e.generation) [
      | inl there ↦ elsewhere t is ∙ covers t e reads_too there
      | inr last ↦
          let same : t ≡ task = same_entry t task reads_too.named reads.named (last ∙ named) in
          let clash : true ≡ false = sym (itself task) ∙ ap (eq_by_cmp path_cmp task) (sym same) ∙ is in
          absurd (cc (clash))
    ]
  ] refl

-- what is read of all names
pub opens_from : (fs : Files) (numbers : Numbers) → AreRead fs numbers → Covers fs numbers (names fs) → Opens fs numbers
opens_from fs numbers read covers t n = (read t n, λ (entry, reads, is). subst (λ (m : ℕ). IsOpening numbers t m) is (covers t entry reads (name_from_there fs (entry_name t) _ reads.text)))

-- ---- loose names

pub loose_here : (numbers : Numbers) (task : List ℕ) (number : ℕ) (name : List ℕ) (opens : Bool) → IsOf task number name → IsTrue opens ↔ IsOpening numbers task number → IsTrue (not opens) ↔ IsLoose numbers name
loose_here numbers task number name true of iff = (
  λ no. absurd (true≢false (sym no)),
  λ (t, n, of_too, none).
      let same = one_generation t task n number name of_too of in
      absurd (none (subst (λ (u : List ℕ). IsOpening numbers u n) (sym same.0) (subst (λ (m : ℕ). IsOpening numbers task m) (sym same.1) (iff.0 refl)))),
)
loose_here numbers task number name false of iff = (λ _. (task, number, of, λ opening. true≢false (sym (iff.1 opening))), λ _. refl)

pub not_loose : (numbers : Numbers) (name : List ℕ) → ((task : List ℕ) (number : ℕ) → IsOf task number name → ⊥) → IsTrue false ↔ IsLoose numbers name
not_loose numbers name none = (λ no. absurd (true≢false (sym no)), λ (t, n, of, _). absurd (none t n of))

pub loose_more : (numbers : Numbers) (seen gone : List (List ℕ)) (name : List ℕ) → AreLoose numbers seen gone → IsLoose numbers name → AreLoose numbers (seen ++ name ∷ []) (gone ++ name ∷ [])
loose_more numbers seen gone name are is = record {
  each = λ x among. elim (contains_last gone x name among) as (λ _. IsLoose numbers x) [
    | inl before ↦ are.each x before
    | inr same ↦ subst (λ (n : List ℕ). IsLoose numbers n) (sym same) is
  ];
  every = λ x among loose. elim (contains_last seen x name among) as (λ _. Contains (gone ++ name ∷ []) x) [
    | inl before ↦ Contains-append_left gone (name ∷ []) x (are.every x before loose)
    | inr same ↦ subst (λ (n : List ℕ). Contains (gone ++ name ∷ []) n) (sym same) (Contains-push gone name)
  ];
}

pub loose_same : (numbers : Numbers) (seen gone : List (List ℕ)) (name : List ℕ) → AreLoose numbers seen gone → (IsLoose numbers name → ⊥) → AreLoose numbers (seen ++ name ∷ []) gone
loose_same numbers seen gone name are none = record {
  each = are.each;
  every = λ x among loose. elim (contains_last seen x name among) as (λ _. Contains gone x) [
    | inl before ↦ are.every x before loose
    | inr same ↦ absurd (none (subst (λ (n : List ℕ). IsLoose numbers n) same loose))
  ];
}

pub loose_is_unpublished : (fs : Files) (numbers : Numbers) (name : List ℕ) → Opens fs numbers → IsLoose numbers name → IsUnpublished fs name
loose_is_unpublished fs numbers name opens (t, n, of, none) = (t, n, of, λ published. none ((opens t n).1 published))

named_if_there : (fs : Files) (name : List ℕ) → IsThere fs name → Contains (names fs) name
named_if_there fs name there = elim (files.get fs name) as (λ o. files.get fs name ≡ o → Contains (names fs) name) [
  | Some bytes ↦ λ is. name_from_there fs name bytes is
  | None ↦ λ is. absurd (there is)
] refl

pub are_unpublished : (fs : Files) (numbers : Numbers) (gone : List (List ℕ)) → Opens fs numbers → AreLoose numbers (names fs) gone → AreUnpublished fs gone
are_unpublished fs numbers gone opens are = record {
  each = λ name among. loose_is_unpublished fs numbers name opens (are.each name among);
  every = λ name (t, n, of, none) there. are.every name (named_if_there fs name there) (t, n, of, λ opening. none ((opens t n).0 opening));
}

-- ---- numbers in use at the start

pub used_at_start : (fs : Files) (numbers : Numbers) → Opens fs numbers → NoneTaken numbers → (task : List ℕ) (number : ℕ) → IsUsed numbers task number ↔ IsPublished fs task number
used_at_start fs numbers opens none task number = (to, λ published. inl ((opens task number).1 published)) where
  to : IsUsed numbers task number → IsPublished fs task number
  to (inl opening) = (opens task number).0 opening
  to (inr (low, within)) = absurd (omega (arith, low, within, nothing)) where
    nothing : last_taken numbers task ≡ 0
    nothing = ap (λ o. unwrap_or o 0) (none task)

pub loose_at : (numbers : Numbers) (seen seen' gone gone' : List (List ℕ)) → seen' ≡ seen → gone' ≡ gone → AreLoose numbers seen gone → AreLoose numbers seen' gone'
loose_at numbers seen seen' gone gone' same same_gone are =
    subst (λ (xs : List (List ℕ)). AreLoose numbers xs gone') (sym same) (subst (λ (xs : List (List ℕ)). AreLoose numbers seen xs) (sym same_gone) are)

-- what is said of told content
pub at_told : {X : Type 0} (told : Option X) (x : X) (P : X → Type 0) → told ≡ Some x → IfSome told P → P x
at_told told x P is h = subst (λ o. IfSome o P) is h

pub if_told : {X : Type 0} (told : Option X) (P : X → Type 0) → ((x : X) → told ≡ Some x → P x) → IfSome told P
if_told None P h = tt
if_told (Some x) P h = h x refl
