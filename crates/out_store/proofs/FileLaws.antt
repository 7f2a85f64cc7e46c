-- What stands under a name after a put and after a removal.
use Rattle.std.proofs.Common.{◌≡◌, ◌≢◌, ℕ, ◌⊎◌, inl, inr, true, false, cond, not, List, [], ◌∷◌, Some, None, Contains, refl, sym, ap, ◌∙◌, arith, zero, suc}
use Rattle.std.specs.declared.cmp.Ordering.TheVariants.{Equal}
use Rattle.std.specs.FinMap.Entries as entries
use Rattle.std.specs.Ordering.{is_eq, eq_by_cmp}
use Rattle.std.proofs.lemmas.Cmp.{nat_list_cmp_total, tied_itself}
use Rattle.std.proofs.lemmas.Map.Lookups.{exact_bytes}
use Rattle.std.proofs.lemmas.Map.Views.{tells_apart}
use Rattle.io_traits.specs.Files.{Files, get, insert, remove, names}
use Rattle.tree_value.specs.Trees.{path_cmp}

same : (a b : List ℕ) → eq_by_cmp path_cmp a b ≡ true → a ≡ b
same a b e = tells_apart exact_bytes a b e

itself : (a : List ℕ) → eq_by_cmp path_cmp a a ≡ true
itself a = ap is_eq (tied_itself nat_list_cmp_total a)

apart : (a b : List ℕ) → a ≢ b → eq_by_cmp path_cmp a b ≡ false
apart a b other = elim (eq_by_cmp path_cmp a b) as (λ t. eq_by_cmp path_cmp a b ≡ t → t ≡ false) [
  | true ↦ λ e. absurd (other (same a b e))
  | false ↦ λ _. refl
] refl

-- two names are the same or not
pub decide : (a b : List ℕ) → (a ≡ b) ⊎ (a ≢ b)
decide a b = elim (eq_by_cmp path_cmp a b) as (λ t. eq_by_cmp path_cmp a b ≡ t → (a ≡ b) ⊎ (a ≢ b)) [
  | true ↦ λ e. inl (same a b e)
  | false ↦ λ e. inr (λ is. let clash : true ≡ false = sym (itself a) ∙ ap (eq_by_cmp path_cmp a) is ∙ e in cc (clash))
] refl

pub get_insert : (files : Files) (name bytes : List ℕ) → get (insert files name bytes) name ≡ Some bytes
get_insert files name bytes = entries.find-put path_cmp nat_list_cmp_total name name bytes files ∙ ap (λ t. cond t (Some bytes) (get files name)) (itself name)

pub get_insert_other : (files : Files) (name bytes other : List ℕ) → other ≢ name → get (insert files name bytes) other ≡ get files other
get_insert_other files name bytes other not_it = entries.find-put path_cmp nat_list_cmp_total other name bytes files ∙ ap (λ t. cond t (Some bytes) (get files other)) (apart other name not_it)

alike : (q name x : List ℕ) → path_cmp q x ≡ Equal → not (eq_by_cmp path_cmp name x) ≡ not (eq_by_cmp path_cmp name q)
alike q name x ties = ap (λ n. not (eq_by_cmp path_cmp name n)) (sym (same q x (ap is_eq ties)))

pub get_remove : (files : Files) (name : List ℕ) → get (remove files name) name ≡ None
get_remove files name =
    entries.find-where_key path_cmp (λ n. not (eq_by_cmp path_cmp name n)) name (alike name name) files
    ∙ ap (λ t. cond (not t) (get files name) None) (itself name)

pub get_remove_other : (files : Files) (name other : List ℕ) → other ≢ name → get (remove files name) other ≡ get files other
get_remove_other files name other not_it =
    entries.find-where_key path_cmp (λ n. not (eq_by_cmp path_cmp name n)) other (alike other name) files
    ∙ ap (λ t. cond (not t) (get files other) None) (apart name other (λ e. not_it (sym e)))

-- the names of files are those under which something stands
pub there_from_name : (files : Files) (name : List ℕ) → Contains (names files) name → get files name ≡ None → ⊥
there_from_name [] name (k, within, is) none = omega (arith, within)
there_from_name (file ∷ files) name (zero, within, is) none =
    let found : Some file.1 ≡ None = sym (ap (λ t. cond t (Some file.1) (get files name)) (ap (λ n. eq_by_cmp path_cmp name n) is ∙ itself name)) ∙ none in
    absurd (cc (found))
there_from_name (file ∷ files) name (suc k, within, is) none = elim (eq_by_cmp path_cmp name file.0) as (λ t. cond t (Some file.1) (get files name) ≡ None → ⊥) [
  | true ↦ λ e. absurd (cc (e))
  | false ↦ λ e. there_from_name files name (k, omega (arith, within), is) e
] none

pub name_from_there : (files : Files) (name bytes : List ℕ) → get files name ≡ Some bytes → Contains (names files) name
name_from_there [] name bytes is = absurd (cc (is))
name_from_there (file ∷ files) name bytes is = elim (eq_by_cmp path_cmp name file.0) as (λ t. eq_by_cmp path_cmp name file.0 ≡ t → cond t (Some file.1) (get files name) ≡ Some bytes → Contains (names (file ∷ files)) name) [
  | true ↦ λ e _. (zero, omega arith, sym (same name file.0 e))
  | false ↦ λ _ rest. let more = name_from_there files name bytes rest in let below = more.1 in (suc more.0, omega (arith, below), more.2)
] refl is
