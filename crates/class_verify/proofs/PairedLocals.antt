-- Locals that are read and written, as they fit others and have both slots of their longs.
use Rattle.std.proofs.Common.{◌≡◌, ℕ, zero, suc, ◌+◌, ◌<◌, Bool, true, false, not, ◌||◌, cond, List, [], ◌∷◌, length, Option, Some, None, refl, ap, ◌∙◌, subst, arith}
use Rattle.std.specs.Prelude.{nat_lt, slice_get, slice_set}
use Rattle.std.proofs.lemmas.Bool.{ltb-true}
use Rattle.std.proofs.lemmas.List.{length-set}
use Rattle.jvm_tables.specs.declared.instruction.ValueKind.{ValueKind}
use Rattle.jvm_tables.specs.declared.instruction.ValueKind.TheVariants as values
use Rattle.jvm_tables.proofs.Rows.{both}
use Rattle.class_verify.specs.declared.kinds.Kind.{Kind}
use Rattle.class_verify.specs.declared.kinds.Kind.TheVariants as kinds
use Rattle.class_verify.specs.Effects.{is_read, with_store}
use Rattle.class_verify.specs.Kinds.{is_top, is_long, fits, all_fit}
use Rattle.class_verify.specs.Locals.{is_some_kind, holds, without_long_before, with_kind, with_long}
use Rattle.class_verify.specs.Pairs.{begins_with_top, are_paired_locals}
use Rattle.class_verify.proofs.Ordering.{also, exact}

-- a kind at a place, and the one there that fits it
record Met (locals : List Kind) (at : ℕ) (kind : Kind) : Type 0 where
  found : Kind
  is : slice_get locals at ≡ Some found
  fits_so : fits found kind ≡ true

met : (s t : List Kind) (at : ℕ) (kind : Kind) → all_fit s t ≡ true → slice_get t at ≡ Some kind → Met s at kind
met [] [] at kind f e = cc
met [] (k ∷ t) at kind f e = cc
met (a ∷ s) [] at kind f e = cc
met (a ∷ s) (k ∷ t) zero kind f e =
    let same : k ≡ kind = cc in
    record { found = a; is = refl; fits_so = subst (λ x. fits a x ≡ true) same (both _ _ f).0 }
met (a ∷ s) (k ∷ t) (suc at) kind f e =
    let m : Met s at kind = met s t at kind (both _ _ f).1 e in
    record { found = m.found; is = m.is; fits_so = m.fits_so }

there : (wanted : Kind) (o : Option Kind) → is_some_kind wanted o ≡ true → o ≡ Some wanted
there wanted None e = cc
there kinds.Top (Some kinds.Top) e = refl
there kinds.Top (Some kinds.Int) e = cc
there kinds.Top (Some kinds.Long) e = cc
there kinds.Top (Some kinds.Reference) e = cc
there kinds.Int (Some kinds.Top) e = cc
there kinds.Int (Some kinds.Int) e = refl
there kinds.Int (Some kinds.Long) e = cc
there kinds.Int (Some kinds.Reference) e = cc
there kinds.Long (Some kinds.Top) e = cc
there kinds.Long (Some kinds.Int) e = cc
there kinds.Long (Some kinds.Long) e = refl
there kinds.Long (Some kinds.Reference) e = cc
there kinds.Reference (Some kinds.Top) e = cc
there kinds.Reference (Some kinds.Int) e = cc
there kinds.Reference (Some kinds.Long) e = cc
there kinds.Reference (Some kinds.Reference) e = refl

-- what is held by locals that others fit is held by those
kind_held : (k : Kind) (s t : List Kind) (at : ℕ) → is_top k ≡ false → is_some_kind k (Some k) ≡ true → all_fit s t ≡ true
    → is_some_kind k (slice_get t at) ≡ true → is_some_kind k (slice_get s at) ≡ true
kind_held k s t at bare own f e =
    let m : Met s at k = met s t at k f (there k (slice_get t at) e) in
    ap (is_some_kind k) (m.is ∙ ap Some (exact m.found k bare m.fits_so)) ∙ own

held : (k : ValueKind) (s t : List Kind) (at : ℕ) → all_fit s t ≡ true → holds k at t ≡ true → holds k at s ≡ true
held values.Int s t at f e = kind_held kinds.Int s t at refl refl f e
held values.Long s t at f e = kind_held kinds.Long s t at refl refl f e
held values.Reference s t at f e = kind_held kinds.Reference s t at refl refl f e

pub read_matched : (o : Option ValueKind) (s t : List Kind) (at : ℕ) → all_fit s t ≡ true → is_read o at t ≡ true → is_read o at s ≡ true
read_matched None s t at f e = refl
read_matched (Some k) s t at f e = held k s t at f e

set_fits : (s t : List Kind) (at : ℕ) (k : Kind) → all_fit s t ≡ true → fits k k ≡ true → all_fit (slice_set s at k) (slice_set t at k) ≡ true
set_fits [] [] at k f e = f
set_fits [] (j ∷ t) at k f e = cc
set_fits (a ∷ s) [] at k f e = cc
set_fits (a ∷ s) (j ∷ t) zero k f e = also (fits k k) (all_fit s t) e (both _ _ f).1
set_fits (a ∷ s) (j ∷ t) (suc at) k f e = also (fits a j) (all_fit (slice_set s at k) (slice_set t at k)) (both _ _ f).0 (set_fits s t at k (both _ _ f).1 e)

-- locals without a long that begins at a place
abbrev cut : ℕ → List Kind → List Kind
cut at locals = cond (is_some_kind kinds.Long (slice_get locals at)) (slice_set locals at kinds.Top) locals

cut_more : (a : Kind) (s : List Kind) (at : ℕ) → cut (suc at) (a ∷ s) ≡ a ∷ cut at s
cut_more a s at = decided (is_some_kind kinds.Long (slice_get s at))
  where
    decided : (b : Bool) → cond b (a ∷ slice_set s at kinds.Top) (a ∷ s) ≡ a ∷ cond b (slice_set s at kinds.Top) s
    decided true = refl
    decided false = refl

cut_first : (a k : Kind) (s t : List Kind) → fits a k ≡ true → all_fit s t ≡ true → all_fit (cut zero (a ∷ s)) (cut zero (k ∷ t)) ≡ true
cut_first kinds.Top kinds.Top s t e f = f
cut_first kinds.Int kinds.Top s t e f = f
cut_first kinds.Long kinds.Top s t e f = f
cut_first kinds.Reference kinds.Top s t e f = f
cut_first kinds.Top kinds.Int s t e f = cc
cut_first kinds.Int kinds.Int s t e f = f
cut_first kinds.Long kinds.Int s t e f = cc
cut_first kinds.Reference kinds.Int s t e f = cc
cut_first kinds.Top kinds.Long s t e f = cc
cut_first kinds.Int kinds.Long s t e f = cc
cut_first kinds.Long kinds.Long s t e f = f
cut_first kinds.Reference kinds.Long s t e f = cc
cut_first kinds.Top kinds.Reference s t e f = cc
cut_first kinds.Int kinds.Reference s t e f = cc
cut_first kinds.Long kinds.Reference s t e f = cc
cut_first kinds.Reference kinds.Reference s t e f = f

cut_fits : (at : ℕ) (s t : List Kind) → all_fit s t ≡ true → all_fit (cut at s) (cut at t) ≡ true
cut_fits at [] [] f = f
cut_fits at [] (k ∷ t) f = cc
cut_fits at (a ∷ s) [] f = cc
cut_fits zero (a ∷ s) (k ∷ t) f = cut_first a k s t (both _ _ f).0 (both _ _ f).1
cut_fits (suc at) (a ∷ s) (k ∷ t) f =
    let more : all_fit (a ∷ cut at s) (k ∷ cut at t) ≡ true = also (fits a k) (all_fit (cut at s) (cut at t)) (both _ _ f).0 (cut_fits at s t (both _ _ f).1) in
    ap (λ x. all_fit x (cut (suc at) (k ∷ t))) (cut_more a s at) ∙ ap (λ y. all_fit (a ∷ cut at s) y) (cut_more k t at) ∙ more

without_fits : (at : ℕ) (s t : List Kind) → all_fit s t ≡ true → all_fit (without_long_before at s) (without_long_before at t) ≡ true
without_fits zero s t f = f
without_fits (suc n) s t f = cut_fits n s t f

pub as_many : (s t : List Kind) → all_fit s t ≡ true → length s ≡ length t
as_many [] [] f = refl
as_many [] (k ∷ t) f = cc
as_many (a ∷ s) [] f = cc
as_many (a ∷ s) (k ∷ t) f = ap (λ n. suc n) (as_many s t (both _ _ f).1)

-- Locals that are found, and fit the wanted ones.
pub record Stored (found : Option (List Kind)) (wanted : List Kind) : Type 0 where
  pub locals : List Kind
  pub is : found ≡ Some locals
  pub fits : all_fit locals wanted ≡ true

kind_stored : (k : Kind) (s t after : List Kind) (at : ℕ) → fits k k ≡ true → all_fit s t ≡ true → with_kind k at t ≡ Some after → Stored (with_kind k at s) after
kind_stored k s t after at own f e = by_test (nat_lt at (length t)) refl e
  where
    by_test : (b : Bool) → nat_lt at (length t) ≡ b → cond b (Some (slice_set (without_long_before at t) at k)) None ≡ Some after → Stored (with_kind k at s) after
    by_test false n m = cc
    by_test true n m =
        let same : slice_set (without_long_before at t) at k ≡ after = cc in
        let test : nat_lt at (length s) ≡ true = ap (nat_lt at) (as_many s t f) ∙ n in
        record {
          locals = slice_set (without_long_before at s) at k;
          is = ap (λ b. cond b (Some (slice_set (without_long_before at s) at k)) None) test;
          fits = subst (λ x. all_fit (slice_set (without_long_before at s) at k) x ≡ true) same
              (set_fits (without_long_before at s) (without_long_before at t) at k (without_fits at s t f) own);
        }

abbrev long_at : ℕ → List Kind → List Kind
long_at at locals = slice_set (slice_set (without_long_before at locals) at kinds.Long) (at + 1) kinds.Top

long_stored : (s t after : List Kind) (at : ℕ) → all_fit s t ≡ true → with_long at t ≡ Some after → Stored (with_long at s) after
long_stored s t after at f e = by_test (nat_lt (at + 1) (length t)) refl e
  where
    by_test : (b : Bool) → nat_lt (at + 1) (length t) ≡ b → cond b (Some (long_at at t)) None ≡ Some after → Stored (with_long at s) after
    by_test false n m = cc
    by_test true n m =
        let same : long_at at t ≡ after = cc in
        let test : nat_lt (at + 1) (length s) ≡ true = ap (nat_lt (at + 1)) (as_many s t f) ∙ n in
        let first : all_fit (slice_set (without_long_before at s) at kinds.Long) (slice_set (without_long_before at t) at kinds.Long) ≡ true =
        set_fits (without_long_before at s) (without_long_before at t) at kinds.Long (without_fits at s t f) refl in
        record {
          locals = long_at at s;
          is = ap (λ b. cond b (Some (long_at at s)) None) test;
          fits = subst (λ x. all_fit (long_at at s) x ≡ true) same
              (set_fits (slice_set (without_long_before at s) at kinds.Long) (slice_set (without_long_before at t) at kinds.Long) (at + 1) kinds.Top first refl);
        }

pub store_matched : (o : Option ValueKind) (s t after : List Kind) (at : ℕ) → all_fit s t ≡ true → with_store o at t ≡ Some after → Stored (with_store o at s) after
store_matched None s t after at f e =
    let same : t ≡ after = cc in
    record { locals = s; is = refl; fits = subst (λ x. all_fit s x ≡ true) same f }
store_matched (Some values.Int) s t after at f e = kind_stored kinds.Int s t after at refl f e
store_matched (Some values.Long) s t after at f e = long_stored s t after at f e
store_matched (Some values.Reference) s t after at f e = kind_stored kinds.Reference s t after at refl f e

-- a slot that is Top stays Top, whatever is written behind it
top_cut : (n : ℕ) (s : List Kind) → begins_with_top s ≡ true → begins_with_top (cut n s) ≡ true
top_cut n [] e = cc
top_cut n (kinds.Int ∷ s) e = cc
top_cut n (kinds.Long ∷ s) e = cc
top_cut n (kinds.Reference ∷ s) e = cc
top_cut zero (kinds.Top ∷ s) e = refl
top_cut (suc n) (kinds.Top ∷ s) e = ap begins_with_top (cut_more kinds.Top s n)

top_set : (n : ℕ) (k : Kind) (s : List Kind) → begins_with_top (slice_set s (suc n) k) ≡ begins_with_top s
top_set n k [] = refl
top_set n k (a ∷ s) = refl

-- one more slot before
more_paired : (a : Kind) (s r : List Kind) → (not (is_long a) || begins_with_top s) ≡ true → (begins_with_top s ≡ true → begins_with_top r ≡ true)
    → are_paired_locals r ≡ true → are_paired_locals (a ∷ r) ≡ true
more_paired kinds.Top s r e top p = p
more_paired kinds.Int s r e top p = p
more_paired kinds.Reference s r e top p = p
more_paired kinds.Long s r e top p = also (begins_with_top r) (are_paired_locals r) (top e) p

-- no long begins in a slot that is cut
cut_paired : (k : Kind) (s r : List Kind) → are_paired_locals r ≡ true → is_long k ≡ false → are_paired_locals (k ∷ r) ≡ true
cut_paired kinds.Top s r p e = p
cut_paired kinds.Int s r p e = p
cut_paired kinds.Reference s r p e = p
cut_paired kinds.Long s r p e = cc

kind_paired : (k : Kind) (at : ℕ) (s : List Kind) → is_long k ≡ false → are_paired_locals s ≡ true → are_paired_locals (slice_set (without_long_before at s) at k) ≡ true
kind_paired k zero [] e p = refl
kind_paired k zero (a ∷ s) e p = cut_paired k s s (both _ _ p).1 e
kind_paired k (suc zero) [] e p = refl
kind_paired k (suc zero) (kinds.Top ∷ s) e p = kind_paired k zero s e p
kind_paired k (suc zero) (kinds.Int ∷ s) e p = kind_paired k zero s e p
kind_paired k (suc zero) (kinds.Long ∷ s) e p = kind_paired k zero s e (both (begins_with_top s) (are_paired_locals s) p).1
kind_paired k (suc zero) (kinds.Reference ∷ s) e p = kind_paired k zero s e p
kind_paired k (suc (suc n)) [] e p = refl
kind_paired k (suc (suc n)) (a ∷ s) e p =
    ap (λ x. are_paired_locals (slice_set x (suc (suc n)) k)) (cut_more a s n)
    ∙ more_paired a s (slice_set (cut n s) (suc n) k) (both _ _ p).0
    (λ t. top_set n k (cut n s) ∙ top_cut n s t)
    (kind_paired k (suc n) s e (both _ _ p).1)

abbrev pair_at : ℕ → List Kind → List Kind
pair_at at s = slice_set (slice_set (without_long_before at s) at kinds.Long) (suc at) kinds.Top

long_paired : (at : ℕ) (s : List Kind) → suc at < length s → are_paired_locals s ≡ true → are_paired_locals (pair_at at s) ≡ true
long_paired at [] h p = absurd (omega arith)
long_paired zero (a ∷ []) h p = absurd (omega arith)
long_paired zero (a ∷ b ∷ s) h p = (both _ _ (both _ _ p).1).1
long_paired (suc zero) (kinds.Top ∷ s) h p = long_paired zero s (omega arith) p
long_paired (suc zero) (kinds.Int ∷ s) h p = long_paired zero s (omega arith) p
long_paired (suc zero) (kinds.Long ∷ s) h p = long_paired zero s (omega arith) (both (begins_with_top s) (are_paired_locals s) p).1
long_paired (suc zero) (kinds.Reference ∷ s) h p = long_paired zero s (omega arith) p
long_paired (suc (suc n)) (a ∷ s) h p =
    ap (λ x. are_paired_locals (slice_set (slice_set x (suc (suc n)) kinds.Long) (suc (suc (suc n))) kinds.Top)) (cut_more a s n)
    ∙ more_paired a s (slice_set (slice_set (cut n s) (suc n) kinds.Long) (suc (suc n)) kinds.Top) (both _ _ p).0
    (λ t. top_set (suc n) kinds.Top (slice_set (cut n s) (suc n) kinds.Long) ∙ top_set n kinds.Long (cut n s) ∙ top_cut n s t)
    (long_paired (suc n) s (omega arith) (both _ _ p).1)

length_without : (at : ℕ) (s : List Kind) → length (without_long_before at s) ≡ length s
length_without zero s = refl
length_without (suc n) s = decided (is_some_kind kinds.Long (slice_get s n))
  where
    decided : (b : Bool) → length (cond b (slice_set s n kinds.Top) s) ≡ length s
    decided true = length-set s n kinds.Top
    decided false = refl

-- Locals behind a store have both slots of their longs, and are as many.
abbrev Kept : List Kind → List Kind → Type 0
Kept s after = (are_paired_locals after ≡ true) × (length after ≡ length s)

kind_kept : (k : Kind) (s after : List Kind) (at : ℕ) → is_long k ≡ false → are_paired_locals s ≡ true → with_kind k at s ≡ Some after → Kept s after
kind_kept k s after at bare p e = by_test (nat_lt at (length s)) e
  where
    by_test : (b : Bool) → cond b (Some (slice_set (without_long_before at s) at k)) None ≡ Some after → Kept s after
    by_test false m = cc
    by_test true m =
        let same : slice_set (without_long_before at s) at k ≡ after = cc in
        subst (Kept s) same (kind_paired k at s bare p, length-set (without_long_before at s) at k ∙ length_without at s)

long_kept : (s after : List Kind) (at : ℕ) → are_paired_locals s ≡ true → with_long at s ≡ Some after → Kept s after
long_kept s after at p e = by_test (nat_lt (at + 1) (length s)) refl e
  where
    by_test : (b : Bool) → nat_lt (at + 1) (length s) ≡ b → cond b (Some (long_at at s)) None ≡ Some after → Kept s after
    by_test false n m = cc
    by_test true n m =
        let same : long_at at s ≡ after = cc in
        let inside : at + 1 < length s = ltb-true (at + 1) (length s) n in
        let next : suc at ≡ at + 1 = omega arith in
        let pair : are_paired_locals (pair_at at s) ≡ true = long_paired at s (omega arith) p in
        let whole : are_paired_locals (long_at at s) ≡ true =
        subst (λ (i : ℕ). are_paired_locals (slice_set (slice_set (without_long_before at s) at kinds.Long) i kinds.Top) ≡ true) next pair in
        subst (Kept s) same (
          whole,
          length-set (slice_set (without_long_before at s) at kinds.Long) (at + 1) kinds.Top
              ∙ length-set (without_long_before at s) at kinds.Long ∙ length_without at s,
        )

pub store_kept : (o : Option ValueKind) (s after : List Kind) (at : ℕ) → are_paired_locals s ≡ true → with_store o at s ≡ Some after
    → (are_paired_locals after ≡ true) × (length after ≡ length s)
store_kept None s after at p e =
    let same : s ≡ after = cc in
    subst (Kept s) same (p, refl)
store_kept (Some values.Int) s after at p e = kind_kept kinds.Int s after at refl p e
store_kept (Some values.Long) s after at p e = long_kept s after at p e
store_kept (Some values.Reference) s after at p e = kind_kept kinds.Reference s after at refl p e
