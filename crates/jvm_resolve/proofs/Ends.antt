-- Where plans end that go on one after another.
use Rattle.std.proofs.Common.{◌≡◌, ◌≢◌, ℕ, zero, suc, List, ◌∷◌, refl}
use Rattle.jvm_heap.specs.declared.slot.Slot.{Slot}
use Rattle.jvm_heap.specs.declared.slot.Slot.TheVariants.{Ref}
use Rattle.jvm_model.specs.Attempts.{fine}
use Rattle.jvm_model.specs.Calls.{receiver}
use Rattle.jvm_model.specs.Plans.{Oracle, Plan, ends, asks, after, end_of}

pub end_of-after : {A B : Type 0} → (oracle : Oracle) (plan : Plan A) (next : A → Plan B) → end_of oracle (after plan next) ≡ end_of oracle (next (end_of oracle plan))
end_of-after oracle (ends a) next = refl
end_of-after oracle (asks q more) next = end_of-after oracle (more (oracle q)) next

pub ruleset ended = (end_of-after)

pub receiver_there : (oracle : Oracle) (n : ℕ) (slots : List Slot) → n ≢ 0 → end_of oracle (receiver (Ref n ∷ slots)) ≡ fine n
receiver_there oracle zero slots some = absurd (some refl)
receiver_there oracle (suc n) slots some = refl

pub ruleset receivers = (receiver_there)
