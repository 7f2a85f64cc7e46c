-- The first of several faults.
use Rattle.std.specs.Prelude.{◌≡◌, ℕ, ◌+◌, ◌^◌, Bool, true, false, ◌&&◌, nat_lt, List, [], ◌∷◌, length, take, Option, Some, None, ⊤}
use Rattle.std.specs.List.{list_any}
use Rattle.const_pool.specs.declared.write_fault.Part.{Part}
use Rattle.const_pool.specs.declared.write_fault.WriteFault.{WriteFault}
use Rattle.const_pool.specs.declared.write_fault.WriteFault.TheVariants.{TooLarge, BadShape, Memory}

-- a fault where a test fails
unfoldable pub unless : Bool → WriteFault → Option WriteFault
unless true fault = None
unless false fault = Some fault

-- the first of two
infixr 8 ◌<|>◌
unfoldable pub ◌<|>◌ : Option WriteFault → Option WriteFault → Option WriteFault
None <|> next = next
(Some fault) <|> next = Some fault

-- the first of items that are numbered from a number on
unfoldable pub first_from : {A : Type 0} → (ℕ → A → Option WriteFault) → ℕ → List A → Option WriteFault
first_from misfit number [] = None
first_from misfit number (x ∷ items) = misfit number x <|> first_from misfit (number + 1) items

-- a count that fits its field, and behind it the items from 0 on
unfoldable pub counted : {A : Type 0} → Part → (ℕ → A → Option WriteFault) → List A → Option WriteFault
counted part misfit items = unless (nat_lt (length items) (2 ^ 16)) (TooLarge part) <|> first_from misfit 0 items

-- what is told of each of the items that are numbered from a number on
unfoldable pub told_from : {A B : Type 0} → (ℕ → A → B) → ℕ → List A → List B
told_from tell number [] = []
told_from tell number (x ∷ items) = tell number x ∷ told_from tell (number + 1) items

-- an item of a number counts, and an earlier one is the same
abbrev pub is_again : {A : Type 0} → (A → Bool) → (A → A → Bool) → List A → ℕ → A → Bool
is_again counts same items number x = counts x && list_any (same x) (take number items)

-- A refusal names this fault; of a want of memory nothing is said.
unfoldable pub Refuses : WriteFault → Option WriteFault → Type 0
Refuses Memory found = ⊤
Refuses (TooLarge part) found = found ≡ Some (TooLarge part)
Refuses (BadShape part) found = found ≡ Some (BadShape part)
