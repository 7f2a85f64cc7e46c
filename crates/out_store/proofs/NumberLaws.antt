-- The next number, and which are used after it was taken.
use Rattle.std.proofs.Common.{◌≡◌, ◌↔◌, ℕ, ◌+◌, ◌^◌, ◌<◌, ◌≤◌, ◌⊎◌, inl, inr, true, false, cond, List, Option, Some, refl, sym, ap, subst, ◌∙◌, arith}
use Rattle.std.specs.BTreeMap.{get}
use Rattle.std.specs.Option.{unwrap_or}
use Rattle.std.specs.Ordering.{eq_by_cmp, is_eq}
use Rattle.std.proofs.lemmas.Bool.{cases_lt, cases_eq}
use Rattle.std.proofs.lemmas.Cmp.{nat_list_cmp_total, tied_itself}
use Rattle.std.proofs.lemmas.Map.Lookups.{exact_bytes}
use Rattle.std.proofs.lemmas.Map.Views.{tells_apart}
use Rattle.std.proofs.lemmas.Option.{same_Some}
use Rattle.out_store.specs.Numbers.{IsUsed, IsNext, IsNextBehind, Takes, UsesTheSame, last_taken}
use Rattle.out_store.specs.declared.numbers.Numbers.{Numbers}
use Rattle.tree_value.specs.Trees.{path_cmp}

module _ (numbers : Numbers) (task : List ℕ) (number last : ℕ) (is_last : last ≡ last_taken numbers task) where
  pub next_behind : number < 2 ^ 32 → (opening : Option ℕ) → opening ≡ get path_cmp numbers.opening task → IsNextBehind last opening number → IsNext numbers task number
  next_behind small opening is (inl (next, other)) = record {
    counted = (omega arith, small);
    free = λ used. elim used as (λ _. ⊥) [
      | inl opened ↦ other (is ∙ opened)
      | inr taken ↦ let within = taken.1 in omega (arith, is_last, next, within)
    ];
    least = λ m low below. inr (low, omega (arith, is_last, next, below));
  }
  next_behind small opening is (inr (next, opened)) = record {
    counted = (omega arith, small);
    free = λ used. elim used as (λ _. ⊥) [
      | inl again ↦ let same : last + 1 ≡ number = same_Some _ _ (sym opened ∙ is ∙ again) in omega (arith, same, next)
      | inr taken ↦ let within = taken.1 in omega (arith, is_last, next, within)
    ];
    least = λ m low below. elim (cases_eq m (last + 1)) as (λ _. IsUsed numbers task m) [
      | inl same ↦ inl (sym is ∙ opened ∙ ap Some (sym same))
      | inr other ↦ inr (low, omega (arith, is_last, next, below, other))
    ];
  }

same_task : (t u : List ℕ) → eq_by_cmp path_cmp t u ≡ true → t ≡ u
same_task t u e = tells_apart exact_bytes t u e

itself : (t : List ℕ) → eq_by_cmp path_cmp t t ≡ true
itself t = ap is_eq (tied_itself nat_list_cmp_total t)

module _ (old new : Numbers) (task : List ℕ) (number : ℕ) (next : IsNext old task number) (opening : new.opening ≡ old.opening)
    (taken : (t : List ℕ) → get path_cmp new.taken t ≡ cond (eq_by_cmp path_cmp task t) (Some number) (get path_cmp old.taken t)) where
  opens : (t : List ℕ) → get path_cmp new.opening t ≡ get path_cmp old.opening t
  opens t = ap (λ (m : _). get path_cmp m t) opening

  last_here : last_taken new task ≡ number
  last_here = ap (λ o. unwrap_or o 0) (taken task ∙ ap (λ b. cond b (Some number) (get path_cmp old.taken task)) (itself task))

  last_there : (t : List ℕ) → eq_by_cmp path_cmp task t ≡ false → last_taken new t ≡ last_taken old t
  last_there t apart = ap (λ o. unwrap_or o 0) (taken t ∙ ap (λ b. cond b (Some number) (get path_cmp old.taken t)) apart)

  last_grows : last_taken old task ≤ number
  last_grows = elim (cases_lt number (last_taken old task)) [
    | inl less ↦ let low = next.counted.0 in absurd (next.free (inr (low, omega (arith, less))))
    | inr more ↦ more
  ]

  here_to : (n : ℕ) → IsUsed new task n → IsUsed old task n ⊎ ((task ≡ task) × (n ≡ number))
  here_to n (inl opened) = inl (inl (sym (opens task) ∙ opened))
  here_to n (inr (low, within)) = elim (cases_eq n number) as (λ _. IsUsed old task n ⊎ ((task ≡ task) × (n ≡ number))) [
    | inl same ↦ inr (refl, same)
    | inr other ↦ inl (next.least n low (omega (arith, last_here, within, other)))
  ]

  here_from : (n : ℕ) → IsUsed old task n ⊎ ((task ≡ task) × (n ≡ number)) → IsUsed new task n
  here_from n (inl (inl opened)) = inl (opens task ∙ opened)
  here_from n (inl (inr (low, within))) = inr (low, omega (arith, last_here, last_grows, within))
  here_from n (inr (same, is)) = let low = next.counted.0 in inr (omega (arith, low, is), omega (arith, last_here, is))

  there_to : (t : List ℕ) (n : ℕ) → eq_by_cmp path_cmp task t ≡ false → IsUsed new t n → IsUsed old t n
  there_to t n apart (inl opened) = inl (sym (opens t) ∙ opened)
  there_to t n apart (inr (low, within)) = inr (low, omega (arith, last_there t apart, within))

  there_from : (t : List ℕ) (n : ℕ) → eq_by_cmp path_cmp task t ≡ false → IsUsed old t n ⊎ ((t ≡ task) × (n ≡ number)) → IsUsed new t n
  there_from t n apart (inl (inl opened)) = inl (opens t ∙ opened)
  there_from t n apart (inl (inr (low, within))) = inr (low, omega (arith, last_there t apart, within))
  there_from t n apart (inr (same, is)) =
      let clash : true ≡ false = sym (itself task) ∙ ap (eq_by_cmp path_cmp task) (sym same) ∙ apart in absurd (cc (clash))

  pub takes : Takes old task number new
  takes t n = elim (eq_by_cmp path_cmp task t) as (λ b. eq_by_cmp path_cmp task t ≡ b → IsUsed new t n ↔ (IsUsed old t n ⊎ ((t ≡ task) × (n ≡ number)))) [
    | true ↦ λ e. subst (λ (u : List ℕ). IsUsed new u n ↔ (IsUsed old u n ⊎ ((u ≡ task) × (n ≡ number)))) (same_task task t e) (here_to n, here_from n)
    | false ↦ λ e. ((λ used. inl (there_to t n e used)), there_from t n e)
  ] refl

pub same_numbers : (old new : Numbers) → new.opening ≡ old.opening → ((t : List ℕ) → get path_cmp new.taken t ≡ get path_cmp old.taken t) → UsesTheSame old new
same_numbers old new opening taken t n = (to, from) where
  to : IsUsed new t n → IsUsed old t n
  to (inl opened) = inl (ap (λ (m : _). get path_cmp m t) (sym opening) ∙ opened)
  to (inr (low, within)) = inr (low, omega (arith, ap (λ o. unwrap_or o 0) (taken t), within))

  from : IsUsed old t n → IsUsed new t n
  from (inl opened) = inl (ap (λ (m : _). get path_cmp m t) opening ∙ opened)
  from (inr (low, within)) = inr (low, omega (arith, ap (λ o. unwrap_or o 0) (taken t), within))
