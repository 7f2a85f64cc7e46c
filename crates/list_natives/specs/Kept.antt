-- The elements that a filter keeps.
use Rattle.std.specs.Prelude.{ℕ, List, [], ◌∷◌, if◌then◌else◌}
use Rattle.jvm_heap.specs.declared.slot.Slot.{Slot}
use Rattle.native_model.specs.Answers.{is_true}

-- an element where the answer for it is true
abbrev pub kept_of : Slot → ℕ → List ℕ
kept_of slot element = if is_true slot then element ∷ [] else []
