use Rattle.std.proofs.Common.{rules, arith, tests, refl, ◌↔◌, IsTrue, ℕ, ◌≤◌, ◌<◌, length, Bool, true, false, List, [], eqb, ◌==◌}
use Rattle.std.specs.Bool.{MatchBool}
use Rattle.std.specs.List.{AllWithin, HoldsAt, slice_split}
use Rattle.std.proofs.lemmas.Iterator.{cases_from_all}
use Rattle.std.proofs.lemmas.Iterator.Splits.{YieldsList-from_slice_split}
use Rattle.out_store.specs.Names.{IsTaskName, IsTaskPart}
use Rattle.out_store.proofs.names.is_task_name.Goals as goal

abbrev parts : List ℕ → List (List ℕ)
parts bytes = slice_split (λ b. b == 46) bytes

judged : (r : Bool) (bytes : List ℕ) → length bytes ≤ 255 → MatchBool r (AllWithin IsTaskPart (parts bytes) 0 (length (parts bytes))) ((k : ℕ) × (k < length (parts bytes)) × HoldsAt (λ s. ¬ (IsTaskPart s)) (parts bytes) k) → IsTrue r ↔ IsTaskName bytes
judged true bytes within all = (λ _. record { within = within; parts = λ k d below. all k d (omega arith) below }, λ _. refl)
judged false bytes within bad = (λ never. cc, λ name. absurd (bad.2 [] (name.parts bad.0 [] bad.1)))

pub returns-then-bytes-le-MAX_TASK_LEN : goal.returns-then-bytes-le-MAX_TASK_LEN
returns-then-bytes-le-MAX_TASK_LEN c =
    judged _ _ (omega arith)
    (cases_from_all _ _ _ IsTaskPart (λ s. ¬ (IsTaskPart s)) c.all.ensures.ran
    (YieldsList-from_slice_split _ (λ b. eqb b 46) c.args.bytes.now c.split.ensures.rest c.split.ensures.done c.split.ensures.closure (λ x r q k. search (rules, tests)))
    (λ x q k. search rules) (λ x q k. search rules))
