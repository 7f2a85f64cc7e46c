-- The files of a dest as a map, and what they weigh.
use Rattle.std.proofs.Common.{◌≡◌, ℕ, ◌+◌, ◌≤◌, List, [], ◌∷◌, ◌++◌, length, refl, sym, subst, ap, ◌∙◌, cond, arith}
use Rattle.std.specs.Prelude.{Option, Some, None, sum_by}
use Rattle.std.specs.declared.cmp.Ordering.{Ordering}
use Rattle.std.specs.declared.cmp.Ordering.TheVariants.{Less, Equal, Greater}
use Rattle.std.specs.Ordering.{is_eq, match_ordering, nat_cmp}
use Rattle.std.specs.List.Sorted.{IsStrictlySortedBy}
use Rattle.std.specs.Cmp.Lexicographic.{nat_list_cmp_total}
use Rattle.std.specs.Map.{keys_of, lookup}
use Rattle.std.specs.BTreeMap.{is_at, insert_entry}
use Rattle.std.specs.FinMap.Entries as entries
use Rattle.std.specs.FinMap.Entries.{by_order}
use Rattle.std.proofs.lemmas.Map.{lookup-none}
use Rattle.std.proofs.lemmas.Map.Entries.{none_below_head}
use Rattle.std.proofs.lemmas.Map.Keys.{sorted_tail}
use Rattle.std.proofs.lemmas.Map.Lookups.{exact_bytes}
use Rattle.std.proofs.lemmas.List.Sums.{sum_by-cons, sum_by-append}
use Rattle.tree_value.specs.Trees.{path_cmp}
use Rattle.native_model.specs.Outside.{dest_bytes, log_bytes}

Files : Type 0
Files = List (List ℕ × List ℕ)

pub looked_up : (q : List ℕ) (es : List (List ℕ × List ℕ)) → lookup (is_at (path_cmp q)) es ≡ entries.find path_cmp q es
looked_up q [] = refl
looked_up q (e ∷ es) = ap (λ x. cond (is_eq (path_cmp q e.0)) (Some e.1) x) (looked_up q es)

pub put_in : (k v : List ℕ) (es : List (List ℕ × List ℕ)) → insert_entry path_cmp es k v ≡ entries.put path_cmp k v es
put_in k v [] = refl
put_in k v (e ∷ es) = by (path_cmp k e.0) (put_in k v es)
  where
    by : (o : Ordering) → insert_entry path_cmp es k v ≡ entries.put path_cmp k v es → match_ordering o ((k, v) ∷ e ∷ es) ((e.0, v) ∷ es) (e ∷ insert_entry path_cmp es k v) ≡ by_order o ((k, v) ∷ e ∷ es) ((e.0, v) ∷ es) (e ∷ entries.put path_cmp k v es)
    by Less later = refl
    by Equal later = refl
    by Greater later = ap (λ l. e ∷ l) later

weight : List ℕ × List ℕ → ℕ
weight f = length f.0 + length f.1

-- what a file of a path weighs that was there
abbrev pub before : List ℕ → Option (List ℕ) → ℕ
before k None = 0
before k (Some old) = length k + length old

cons_weighs : (f : List ℕ × List ℕ) (es : List (List ℕ × List ℕ)) → dest_bytes (f ∷ es) ≡ (length f.0 + length f.1) + dest_bytes es
cons_weighs f es = sum_by-cons (λ (g : List ℕ × List ℕ). length g.0 + length g.1) f es

pub weighed : (k v : List ℕ) (es : List (List ℕ × List ℕ)) → IsStrictlySortedBy path_cmp (keys_of es) → dest_bytes (insert_entry path_cmp es k v) + before k (lookup (is_at (path_cmp k)) es) ≡ dest_bytes es + (length k + length v)
weighed k v [] s = omega (arith, cons_weighs (k, v) [])
weighed k v (e ∷ es) s = by (path_cmp k e.0) refl (weighed k v es (sorted_tail path_cmp e.0 (keys_of es) s))
  where
    by : (o : Ordering) → path_cmp k e.0 ≡ o → dest_bytes (insert_entry path_cmp es k v) + before k (lookup (is_at (path_cmp k)) es) ≡ dest_bytes es + (length k + length v) → dest_bytes (match_ordering o ((k, v) ∷ e ∷ es) ((e.0, v) ∷ es) (e ∷ insert_entry path_cmp es k v)) + before k (cond (is_eq o) (Some e.1) (lookup (is_at (path_cmp k)) es)) ≡ dest_bytes (e ∷ es) + (length k + length v)
    by Less p later = omega (arith, cons_weighs (k, v) (e ∷ es), cons_weighs e es, ap (before k) (lookup-none (is_at (path_cmp k)) es (none_below_head nat_list_cmp_total k e es s p).1))
    by Equal p later = omega (arith, cons_weighs e es, cons_weighs (e.0, v) es, ap length (exact_bytes k e.0 p))
    by Greater p later = omega (arith, cons_weighs e es, cons_weighs e (insert_entry path_cmp es k v))

pub line_weighs : (lines : List (List ℕ)) (line : List ℕ) → log_bytes (lines ++ line ∷ []) ≡ log_bytes lines + (length line + 1)
line_weighs lines line = grind (arith, sum_by-append)

pub put_weighs : (k v : List ℕ) (es : List (List ℕ × List ℕ)) → IsStrictlySortedBy path_cmp (keys_of es) → dest_bytes (entries.put path_cmp k v es) + before k (lookup (is_at (path_cmp k)) es) ≡ dest_bytes es + (length k + length v)
put_weighs k v es s = subst (λ l. dest_bytes l + before k (lookup (is_at (path_cmp k)) es) ≡ dest_bytes es + (length k + length v)) (put_in k v es) (weighed k v es s)

pub ruleset files = (looked_up, put_in)

pub ruleset rooms = (put_in, put_weighs)
