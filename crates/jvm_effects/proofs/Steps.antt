-- Steps of instructions, by what the code has tested.
use Rattle.std.proofs.Common.{◌≡◌, ◌≢◌, ℕ, zero, suc, Bool, List, [], ◌∷◌, ◌++◌, refl, sym, subst, ap}
use Rattle.std.specs.Prelude.{reverse, Option, Some, None, option_map, option_and_then}
use Rattle.std.proofs.lemmas.List.{reverse-append}
use Rattle.jvm_heap.specs.declared.slot.Slot.{Slot}
use Rattle.jvm_tables.specs.declared.instruction.ValueKind.{ValueKind}
use Rattle.jvm_tables.specs.declared.instruction.ValueKind.TheVariants as values
use Rattle.jvm_heap.specs.Operands.{Operands, ValueOf, taken}
use Rattle.jvm_model.specs.Frames.{slot_of, taken_before}
use Rattle.jvm_model.specs.States.{MethodFrame, with_operands}
use Rattle.jvm_effects.specs.Operands.{told}
use Rattle.jvm_heap.specs.Objects.{ArrayKind}
use Rattle.native_model.specs.Worlds.{World, as_array, seen}
use Rattle.native_model.specs.Thrown.{null_pointer}
use Rattle.jvm_model.specs.Attempts.{gives, throws, or_stuck}
use Rattle.jvm_model.specs.Arrays.{array_for, or_mismatch}
use Rattle.jvm_model.specs.Instructions.{present, one_popped}
use Rattle.jvm_resolve.proofs.Ends.{end_of-after}

pub there : (n : ℕ) → n ≢ 0 → present n ≡ gives n
there zero some = absurd (some refl)
there (suc n) some = refl

pub array_there : (test : ArrayKind (List ℕ) → Bool) (n : ℕ) (w : World) → n ≢ 0 → array_for test n w ≡ or_mismatch test (seen as_array n w)
unfolding array_for
array_there test zero w some = absurd (some refl)
array_there test (suc n) w some = refl

pub no_array : (test : ArrayKind (List ℕ) → Bool) (w : World) → array_for test 0 w ≡ throws null_pointer
unfolding array_for
no_array test w = refl

-- what is taken of a kind that is known
pub int_told : (k : ValueKind) (o : Operands) → k ≡ values.Int → option_map (told k) (taken k o) ≡ option_map (told values.Int) (taken values.Int o)
int_told k o is = subst (λ j. option_map (told j) (taken j o) ≡ option_map (told values.Int) (taken values.Int o)) (sym is) refl

pub long_told : (k : ValueKind) (o : Operands) → k ≡ values.Long → option_map (told k) (taken k o) ≡ option_map (told values.Long) (taken values.Long o)
long_told k o is = subst (λ j. option_map (told j) (taken j o) ≡ option_map (told values.Long) (taken values.Long o)) (sym is) refl

pub reference_told : (k : ValueKind) (o : Operands) → k ≡ values.Reference → option_map (told k) (taken k o) ≡ option_map (told values.Reference) (taken values.Reference o)
reference_told k o is = subst (λ j. option_map (told j) (taken j o) ≡ option_map (told values.Reference) (taken values.Reference o)) (sym is) refl

pub ruleset told_kinds = (int_told, long_told, reference_told)

-- a value that is taken, as a slot
taken_as : (k : ValueKind) (f : MethodFrame) (t : Option (ValueOf k × Operands)) → option_map {U = Slot × MethodFrame} (λ found. (slot_of k found.0, with_operands found.1 f)) t ≡ option_map {U = Slot × MethodFrame} (λ found. (found.0, with_operands found.1 f)) (option_map (told k) t)
taken_as k f None = refl
taken_as k f (Some found) = refl

pub value_taken : (k : ValueKind) (f : MethodFrame) → one_popped k f ≡ or_stuck (option_map {U = Slot × MethodFrame} (λ found. (found.0, with_operands found.1 f)) (option_map (told k) (taken k f.operands)))
value_taken k f = ap or_stuck (taken_as k f (taken k f.operands))

-- values of kinds, the last on top
taken_first : (k : ValueKind) (before : List ValueKind) (slots : List Slot) (slot : Slot) (new : Operands) (t : Option (ValueOf k × Operands)) → option_map (told k) t ≡ Some (slot, new)
    → option_and_then (λ found. taken_before before (slot_of k found.0 ∷ slots) found.1) t ≡ taken_before before (slot ∷ slots) new
taken_first k before slots slot new None is = cc
taken_first k before slots slot new (Some found) is = ap (option_and_then (λ (p : Slot × Operands). taken_before before (p.0 ∷ slots) p.1)) is

taken_none : (k : ValueKind) (before : List ValueKind) (slots : List Slot) (t : Option (ValueOf k × Operands)) → option_map (told k) t ≡ None
    → option_and_then (λ found. taken_before before (slot_of k found.0 ∷ slots) found.1) t ≡ None
taken_none k before slots None is = refl
taken_none k before slots (Some found) is = cc

pub taken_last : (k : ValueKind) (before : List ValueKind) (slots : List Slot) (slot : Slot) (o new : Operands) → option_map (told k) (taken k o) ≡ Some (slot, new)
    → taken_before (reverse (before ++ k ∷ [])) (reverse slots) o ≡ taken_before (reverse before) (reverse (slots ++ slot ∷ [])) new
taken_last k before slots slot o new is =
    rw (reverse-append before (k ∷ []), reverse-append slots (slot ∷ [])) (taken_first k (reverse before) (reverse slots) slot new (taken k o) is)

pub last_absent : (k : ValueKind) (before : List ValueKind) (slots : List Slot) (o : Operands) → option_map (told k) (taken k o) ≡ None
    → taken_before (reverse (before ++ k ∷ [])) (reverse slots) o ≡ None
last_absent k before slots o is = rw (reverse-append before (k ∷ [])) (taken_none k (reverse before) (reverse slots) (taken k o) is)

pub ruleset taking_all = (taken_last, last_absent)

pub ruleset taking = (value_taken)

pub ruleset steps = (there, array_there, no_array, end_of-after)
