-- The test of paths, and the paths of trees.
use Rattle.std.proofs.Common.{◌≡◌, ℕ, zero, suc, ◌<◌, ◌≤◌, Bool, true, false, List, [], ◌∷◌, length, get_or, inl, inr, refl, sym, subst, ap, ◌∙◌, arith}
use Rattle.std.specs.Prelude.{◌⊎◌, ◌==◌, ◌&&◌, ◌||◌, not, nat_lt, nat_le, All, Contains, IsUtf8, Option, Some, None, codes, bytes_eq, if◌then◌else◌}
use Rattle.std.specs.Bool.{Decides}
use Rattle.std.specs.List.{list_all, list_any}
use Rattle.std.specs.Str.{is_utf8}
use Rattle.std.proofs.lemmas.Bool.Decides.{nat_tests, Decides-and, Decides-or, Decides-not, Decides-eqb, Decides-ltb, Decides-by_and, Decides-like}
use Rattle.std.proofs.lemmas.Slice.Eq.{bytes_eq-Decides}
use Rattle.std.proofs.lemmas.Str.{IsUtf8-from_is_utf8, is_utf8-from_IsUtf8}
use Rattle.tree_value.specs.Paths.{IsPath, IsSegment, segments}
use Rattle.native_model.specs.Paths.{is_segment, is_path, if_path}

le_decides : (a b : ℕ) → Decides (nat_le a b) (a ≤ b)
le_decides a b = (λ is. grind (arith, nat_tests), λ within. grind (arith, nat_tests))

nul_found : (bytes : List ℕ) → list_any (λ b. b == 0) bytes ≡ true → Contains bytes 0
nul_found [] is = cc
nul_found (b ∷ bytes) is = by (b == 0) refl is (nul_found bytes)
  where
    by : (t : Bool) → (b == 0) ≡ t → (t || list_any (λ c. c == 0) bytes) ≡ true → (list_any (λ c. c == 0) bytes ≡ true → Contains bytes 0) → Contains (b ∷ bytes) 0
    by true here is later = (0, omega arith, (Decides-eqb b 0).0 here)
    by false here is later = let h = later is in (suc h.0, omega (arith, h.1), h.2)

nul_at : (bytes : List ℕ) (k : ℕ) → k < length bytes → get_or bytes k 0 ≡ 0 → list_any (λ b. b == 0) bytes ≡ true
nul_at [] k within at = absurd (omega (arith, within))
nul_at (b ∷ bytes) zero within at = rw ((Decides-eqb b 0).1 at) refl
nul_at (b ∷ bytes) (suc k) within at = by (b == 0) (nul_at bytes k (omega (arith, within)) at)
  where
    by : (t : Bool) → list_any (λ c. c == 0) bytes ≡ true → (t || list_any (λ c. c == 0) bytes) ≡ true
    by true later = refl
    by false later = later

nul_decides : (bytes : List ℕ) → Decides (list_any (λ b. b == 0) bytes) (Contains bytes 0)
nul_decides bytes = (nul_found bytes, λ h. nul_at bytes h.0 h.1 h.2)

segment_decides : (bytes : List ℕ) → Decides (is_segment bytes) (IsSegment bytes)
segment_decides bytes =
    Decides-like _ (λ p. record { some = p.0.0.0.0.0; within = p.0.0.0.0.1; text = p.0.0.0.1; no_nul = p.0.0.1; not_here = p.0.1; not_above = p.1 })
    (λ s. (((((s.some, s.within), s.text), s.no_nul), s.not_here), s.not_above))
    (Decides-and _ _ (Decides-and _ _ (Decides-and _ _ (Decides-and _ _ (Decides-and _ _ (Decides-ltb 0 (length bytes)) (le_decides (length bytes) 200)) (IsUtf8-from_is_utf8 bytes, is_utf8-from_IsUtf8 bytes)) (Decides-not _ (nul_decides bytes))) (Decides-not _ (bytes_eq-Decides bytes (codes ".")))) (Decides-not _ (bytes_eq-Decides bytes (codes ".."))))

no_bytes : (bytes : List ℕ) → length bytes ≡ 0 → bytes ≡ []
no_bytes [] is = refl
no_bytes (b ∷ bytes) is = absurd (omega arith)

steps_of : (bytes : List ℕ) → (length bytes ≡ 0) ⊎ All IsSegment (segments bytes) → (bytes ≡ []) ⊎ All IsSegment (segments bytes)
steps_of bytes (inl none) = inl (no_bytes bytes none)
steps_of bytes (inr all) = inr all

steps_from : (bytes : List ℕ) → (bytes ≡ []) ⊎ All IsSegment (segments bytes) → (length bytes ≡ 0) ⊎ All IsSegment (segments bytes)
steps_from bytes (inl none) = inl (ap length none)
steps_from bytes (inr all) = inr all

path_decides : (bytes : List ℕ) → Decides (is_path bytes) (IsPath bytes)
path_decides bytes =
    Decides-like _ (λ p. record { within = p.0; steps = steps_of bytes p.1 }) (λ s. (s.within, steps_from bytes s.steps))
    (Decides-and _ _ (le_decides (length bytes) 1024) (Decides-or _ _ (Decides-eqb (length bytes) 0) (Decides-by_and is_segment IsSegment (list_all is_segment) segment_decides refl (λ _ _. refl) (segments bytes))))

pub path_told : (bytes : List ℕ) → IsPath bytes → if_path bytes ≡ Some bytes
path_told bytes is = rw ((path_decides bytes).1 is) refl

pub no_path : (bytes : List ℕ) → ¬ (IsPath bytes) → if_path bytes ≡ None
no_path bytes none = by (is_path bytes) refl
  where
    by : (t : Bool) → is_path bytes ≡ t → (if t then Some bytes else None) ≡ None
    by true is = absurd (none ((path_decides bytes).0 is))
    by false is = refl

pub ruleset paths_told = (path_told, no_path)
