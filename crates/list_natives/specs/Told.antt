-- The text of a list by what callbacks gave for its elements.
use Rattle.std.specs.Prelude.{ℕ, zero, suc, Bool, List, [], ◌∷◌, map, codes, Option, Some, None, is_some, unwrap_or}
use Rattle.jvm_heap.specs.declared.slot.Slot.{Slot}
use Rattle.native_model.specs.Worlds.{World}
use Rattle.native_model.specs.Answers.{text_given}

-- a text, or null
abbrev pub is_told : World → Slot → Bool
is_told w slot = is_some (text_given slot w)

abbrev pub text_told : World → Slot → List ℕ
text_told w slot = unwrap_or (text_given slot w) []

abbrev pub texts_told : World → List Slot → List (List ℕ)
texts_told w slots = map (text_told w) slots

-- how many answers an element takes: null is not asked
abbrev pub taken : ℕ → ℕ
taken zero = 0
taken (suc o) = 1

abbrev pub element_told : World → ℕ → Option Slot → List ℕ
element_told w zero given = codes "null"
element_told w (suc o) None = codes "null"
element_told w (suc o) (Some slot) = text_told w slot

-- before more elements
abbrev pub separator : List ℕ → List ℕ
separator [] = []
separator (o ∷ numbers) = codes ", "
