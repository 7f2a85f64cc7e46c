use Rattle.std.proofs.Common.{rules, arith, tests, refl, inl, inr, ◌≡◌, ◌↔◌, IsTrue, ℕ, ◌≤◌, ◌<◌, length, Bool, true, false, List, [], eqb}
use Rattle.std.specs.Bool.{MatchBool}
use Rattle.std.specs.List.{AllWithin, HoldsAt}
use Rattle.std.proofs.lemmas.Iterator.{cases_from_all}
use Rattle.std.proofs.lemmas.Iterator.Splits.{YieldsList-from_slice_split}
use Rattle.tree_value.specs.Paths.{IsPath, IsSegment, segments}
use Rattle.tree_value.proofs.path.is_path.Goals as goal

judged : (r : Bool) (bytes : List ℕ) → ¬ (bytes ≡ []) → length bytes ≤ 1024 → MatchBool r (AllWithin IsSegment (segments bytes) 0 (length (segments bytes))) ((k : ℕ) × (k < length (segments bytes)) × HoldsAt (λ s. ¬ (IsSegment s)) (segments bytes) k) → IsTrue r ↔ IsPath bytes
judged true bytes some within all = (λ _. record { within = within; steps = inr (λ k d below. all k d (omega arith) below) }, λ _. refl)
judged false bytes some within bad = (λ never. cc, λ path. elim path.steps as (λ _. IsTrue false) [ inl e ↦ absurd (some e) | inr all ↦ absurd (bad.2 [] (all bad.0 [] bad.1)) ])

-- src/path.rt:64:1
pub returns-then-bytes-le-MAX_PATH_LEN : goal.returns-then-bytes-le-MAX_PATH_LEN
returns-then-bytes-le-MAX_PATH_LEN c =
    judged _ _ (search rules) (omega arith)
    (cases_from_all _ _ _ IsSegment (λ s. ¬ (IsSegment s)) c.all.ensures.ran
    (YieldsList-from_slice_split _ (λ b. eqb b 47) c.args.bytes.now c.split.ensures.rest c.split.ensures.done c.split.ensures.closure (λ x r q k. search (rules, tests)))
    (λ x q k. search rules) (λ x q k. search rules))
