-- Laws of the numbers of generations, as an opened store has them.
use Rattle.std.proofs.Common.{◌≡◌, ◌≢◌, ◌↔◌, ◌⊎◌, ◌<◌, ◌≤◌, ℕ, inl, inr, List, [], ◌∷◌, Option, Some, None, IfSome, IsSome, refl, sym, ap, subst, ◌∙◌, arith, lit<}
use Rattle.std.specs.BTreeMap.{get}
use Rattle.std.specs.List.{AllByRecursion}
use Rattle.std.proofs.lemmas.Bool.{cases_lt, cases_eq}
use Rattle.std.proofs.lemmas.Option.{same_Some}
use Rattle.io_traits.specs.Files.{Files}
use Rattle.out_entry.specs.declared.entry.Entry.{Entry}
use Rattle.out_store.specs.Changes.{takes_out}
use Rattle.out_store.specs.Generations.{IsPublished}
use Rattle.out_store.specs.Numbers.{IsUsed, IsNext, KnowsIn, Takes, last_taken}
use Rattle.out_store.specs.Opening.{IsOpened}
use Rattle.out_store.specs.declared.numbers.Numbers.{Numbers}
use Rattle.out_store.proofs.StandingLaws.{one_entry}
use Rattle.tree_value.specs.Trees.{path_cmp}
use Rattle.mill_top.specs.Walks.{OthersUse, HasNext, IsReady}

-- ---- the next number of a task

abbrev IsUsedBy : Option ℕ → ℕ → ℕ → Type 0
IsUsedBy opening last number = (opening ≡ Some number) ⊎ ((1 ≤ number) × (number ≤ last))

first_taken : (opening : Option ℕ) (last : ℕ) → (opening ≢ Some 1) → IsUsedBy opening last 1 ⊎ (IsUsedBy opening last 1 → ⊥)
first_taken opening last other = elim (cases_lt last 1) as (λ _. IsUsedBy opening last 1 ⊎ (IsUsedBy opening last 1 → ⊥)) [
  | inl none ↦ inr (λ used. elim used as (λ _. ⊥) [ inl opened ↦ other opened | inr taken ↦ let within = taken.1 in omega (arith, none, within) ])
  | inr some ↦ inl (inr (omega arith, some))
]

first_used : (opening : Option ℕ) (last : ℕ) → IsUsedBy opening last 1 ⊎ (IsUsedBy opening last 1 → ⊥)
first_used None last = first_taken None last (λ e. cc (e))
first_used (Some number) last = elim (cases_eq number 1) as (λ _. IsUsedBy (Some number) last 1 ⊎ (IsUsedBy (Some number) last 1 → ⊥)) [
  | inl same ↦ inl (inl (ap (λ n. Some n) same))
  | inr other ↦ first_taken (Some number) last (λ e. other (same_Some _ _ e))
]

two_published : (files : Files) (task : List ℕ) → IsPublished files task 1 → IsPublished files task 2 → ⊥
two_published files task (e, first, one) (f, second, two) =
    let same : e.generation ≡ f.generation = ap (λ (entry : Entry). entry.generation) (one_entry files task e f first second) in
    omega (arith, one, two, same)

-- where the published numbers alone are used, the next one is 1 or 2
next_there : (files : Files) (numbers : Numbers) (task : List ℕ) → ((number : ℕ) → IsUsed numbers task number ↔ IsPublished files task number) → (number : ℕ) × IsNext numbers task number
next_there files numbers task used = elim (first_used (get path_cmp numbers.opening task) (last_taken numbers task)) as (λ _. (number : ℕ) × IsNext numbers task number) [
  | inl one ↦ (
    2,
    record {
      counted = (omega arith, lit< tt);
      free = λ two. two_published files task ((used 1).0 one) ((used 2).0 two);
      least = λ m low below. let is : 1 ≡ m = omega (arith, low, below) in subst (λ n. IsUsed numbers task n) is one;
    },
  )
  | inr none ↦ (
    1,
    record {
      counted = (omega arith, lit< tt);
      free = none;
      least = λ m low below. absurd (omega (arith, low, below));
    },
  )
]

-- ---- a store that was opened

none_out : (gone : List (List ℕ)) → takes_out gone None ≡ None
none_out [] = refl
none_out (name ∷ gone) = none_out gone

pub if_any : (content : Option Files) (P : Type 0) → P → IfSome content (λ files. P)
if_any None P p = tt
if_any (Some files) P p = p

if_none : (content : Option Files) (P : Type 0) → content ≡ None → IfSome content (λ files. P)
if_none None P e = tt
if_none (Some files) P e = cc

pub opened_ready : (before now : Option Files) (numbers : Numbers) → IsOpened before now numbers → (IsSome before → KnowsIn now numbers) → IsReady numbers now
opened_ready None now numbers opened knows =
    let none : now ≡ None = opened.content.1 ∙ none_out opened.content.0 in
    record { next = λ task. if_none now _ none; knows = λ told. absurd (untold now none told) } where
      untold : (content : Option Files) → content ≡ None → IsSome content → ⊥
      untold None e told = cc (told)
      untold (Some files) e told = cc (e)
opened_ready (Some files) now numbers opened knows = record {
  next = λ task. if_any now _ (next_there files numbers task (opened.used task));
  knows = λ told. knows refl;
}

-- ---- numbers of other tasks

pub takes_others : (numbers numbers_now : Numbers) (task : List ℕ) (number : ℕ) → Takes numbers task number numbers_now → OthersUse task numbers numbers_now
takes_others numbers numbers_now task number takes = λ t n other. (
  (λ used. elim ((takes t n).0 used) as (λ _. IsUsed numbers t n) [ inl before ↦ before | inr same ↦ absurd (other same.0) ]),
  λ used. (takes t n).1 (inl used),
)

-- the next number is the same where the same numbers of the task are used
pub next_along : (old new : Numbers) (task : List ℕ) (number : ℕ) → ((n : ℕ) → IsUsed new task n ↔ IsUsed old task n) → IsNext new task number → IsNext old task number
next_along old new task number same next = record {
  counted = next.counted;
  free = λ used. next.free ((same number).1 used);
  least = λ m low below. (same m).0 (next.least m low below);
}
