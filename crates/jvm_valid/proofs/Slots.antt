-- The kinds of arguments in locals.
use Rattle.std.proofs.Common.{◌≡◌, ℕ, zero, suc, ◌-◌, List, [], ◌∷◌, ◌++◌, length, Some, None, refl, sym, ap, ◌∙◌}
use Rattle.std.specs.Prelude.{flat_map, replicate}
use Rattle.jvm_tables.specs.declared.instruction.ValueKind.{ValueKind}
use Rattle.jvm_tables.specs.declared.instruction.ValueKind.TheVariants as values
use Rattle.class_verify.specs.declared.kinds.Kind.TheVariants as kinds
use Rattle.class_verify.specs.Kinds.{slots}
use Rattle.class_verify.specs.Padding.{padded}
use Rattle.jvm_heap.specs.declared.slot.Slot.{Slot}
use Rattle.jvm_heap.specs.declared.slot.Slot.TheVariants.{Top, Int, Long, Ref}
use Rattle.native_model.specs.Worlds.{NamedHeap}
use Rattle.jvm_model.specs.Frames.{laid_out, first_locals}
use Rattle.jvm_valid.specs.Values.{kinds_in, AreThere, AreValues}

kinds_in-append : (xs ys : List Slot) → kinds_in (xs ++ ys) ≡ kinds_in xs ++ kinds_in ys
kinds_in-append [] ys = refl
kinds_in-append (Top ∷ xs) ys = ap (λ ks. kinds.Top ∷ ks) (kinds_in-append xs ys)
kinds_in-append (Int n ∷ xs) ys = ap (λ ks. kinds.Int ∷ ks) (kinds_in-append xs ys)
kinds_in-append (Long n ∷ xs) ys = ap (λ ks. kinds.Long ∷ ks) (kinds_in-append xs ys)
kinds_in-append (Ref n ∷ xs) ys = ap (λ ks. kinds.Reference ∷ ks) (kinds_in-append xs ys)

kinds_in-replicate : (n : ℕ) → kinds_in (replicate n Top) ≡ replicate n kinds.Top
kinds_in-replicate zero = refl
kinds_in-replicate (suc n) = ap (λ ks. kinds.Top ∷ ks) (kinds_in-replicate n)

length-kinds_in : (xs : List Slot) → length (kinds_in xs) ≡ length xs
length-kinds_in [] = refl
length-kinds_in (x ∷ xs) = ap suc (length-kinds_in xs)

-- a value takes the slots of its kind
kinds_in-laid_out : (h : NamedHeap) (own : List ValueKind) (xs : List Slot) → AreValues h own xs → kinds_in (laid_out xs) ≡ flat_map slots own
kinds_in-laid_out h [] [] are = refl
kinds_in-laid_out h [] (x ∷ xs) are = absurd are
kinds_in-laid_out h (k ∷ own) [] are = absurd are
kinds_in-laid_out h (values.Int ∷ own) (Int n ∷ xs) are = ap (λ ks. kinds.Int ∷ ks) (kinds_in-laid_out h own xs are.1)
kinds_in-laid_out h (values.Long ∷ own) (Long n ∷ xs) are = ap (λ ks. kinds.Long ∷ kinds.Top ∷ ks) (kinds_in-laid_out h own xs are.1)
kinds_in-laid_out h (values.Reference ∷ own) (Ref n ∷ xs) are = ap (λ ks. kinds.Reference ∷ ks) (kinds_in-laid_out h own xs are.1)
kinds_in-laid_out h (k ∷ own) (Top ∷ xs) are = absurd (no are.0.0)
  where
    no : None ≡ Some k → ⊥
    no e = cc
kinds_in-laid_out h (values.Int ∷ own) (Long n ∷ xs) are = let e : Some values.Long ≡ Some values.Int = are.0.0 in cc
kinds_in-laid_out h (values.Int ∷ own) (Ref n ∷ xs) are = let e : Some values.Reference ≡ Some values.Int = are.0.0 in cc
kinds_in-laid_out h (values.Long ∷ own) (Int n ∷ xs) are = let e : Some values.Int ≡ Some values.Long = are.0.0 in cc
kinds_in-laid_out h (values.Long ∷ own) (Ref n ∷ xs) are = let e : Some values.Reference ≡ Some values.Long = are.0.0 in cc
kinds_in-laid_out h (values.Reference ∷ own) (Int n ∷ xs) are = let e : Some values.Int ≡ Some values.Reference = are.0.0 in cc
kinds_in-laid_out h (values.Reference ∷ own) (Long n ∷ xs) are = let e : Some values.Long ≡ Some values.Reference = are.0.0 in cc

-- the locals of a method that begins
pub kinds_in-first_locals : (h : NamedHeap) (own : List ValueKind) (xs : List Slot) (most : ℕ) → AreValues h own xs
    → kinds_in (first_locals most xs) ≡ padded most (flat_map slots own)
kinds_in-first_locals h own xs most are =
    let laid : kinds_in (laid_out xs) ≡ flat_map slots own = kinds_in-laid_out h own xs are in
    let many : length (laid_out xs) ≡ length (flat_map slots own) = sym (length-kinds_in (laid_out xs)) ∙ ap length laid in
    kinds_in-append (laid_out xs) (replicate (most - length (laid_out xs)) Top)
    ∙ ap (λ ks. ks ++ kinds_in (replicate (most - length (laid_out xs)) Top)) laid
    ∙ ap (λ ks. flat_map slots own ++ ks) (kinds_in-replicate (most - length (laid_out xs)))
    ∙ ap (λ n. flat_map slots own ++ replicate (most - n) kinds.Top) many

AreThere-append : (h : NamedHeap) (xs ys : List Slot) → AreThere h xs → AreThere h ys → AreThere h (xs ++ ys)
AreThere-append h [] ys a b = b
AreThere-append h (x ∷ xs) ys a b = (a.0, AreThere-append h xs ys a.1 b)

AreThere-replicate : (h : NamedHeap) (n : ℕ) → AreThere h (replicate n Top)
AreThere-replicate h zero = tt
AreThere-replicate h (suc n) = (tt, AreThere-replicate h n)

AreThere-laid_out : (h : NamedHeap) (own : List ValueKind) (xs : List Slot) → AreValues h own xs → AreThere h (laid_out xs)
AreThere-laid_out h own [] are = tt
AreThere-laid_out h [] (x ∷ xs) are = absurd are
AreThere-laid_out h (k ∷ own) (Top ∷ xs) are = (tt, AreThere-laid_out h own xs are.1)
AreThere-laid_out h (k ∷ own) (Int n ∷ xs) are = (tt, AreThere-laid_out h own xs are.1)
AreThere-laid_out h (k ∷ own) (Long n ∷ xs) are = (tt, (tt, AreThere-laid_out h own xs are.1))
AreThere-laid_out h (k ∷ own) (Ref n ∷ xs) are = (are.0.1, AreThere-laid_out h own xs are.1)

pub AreThere-first_locals : (h : NamedHeap) (own : List ValueKind) (xs : List Slot) (most : ℕ) → AreValues h own xs → AreThere h (first_locals most xs)
AreThere-first_locals h own xs most are =
    AreThere-append h (laid_out xs) (replicate (most - length (laid_out xs)) Top) (AreThere-laid_out h own xs are)
    (AreThere-replicate h (most - length (laid_out xs)))
