-- The slots of types, one type after another.
use Rattle.std.proofs.Common.{◌≡◌, ℕ, suc, ◌+◌, ◌-◌, ◌<◌, ◌≤◌, List, [], ◌∷◌, ◌++◌, length, drop, get_or, reverse, sym, ap, ◌∙◌, arith, append_assoc, length-append}
use Rattle.std.specs.Prelude.{replicate}
use Rattle.std.proofs.lemmas.List.{drop_more, drop_all, reverse-append, append-nil}
use Rattle.class_model.specs.declared.stack_map.FrameType.{FrameType}
use Rattle.class_verify.specs.declared.kinds.Kind.{Kind}
use Rattle.class_verify.specs.declared.kinds.Kind.TheVariants as kinds
use Rattle.class_verify.specs.Frames.{slots_of, all_slots}
use Rattle.class_verify.specs.Padding.{padded}

first_slots : (types : List FrameType) (i : ℕ) (d : FrameType) → i < length types
    → all_slots (drop i types) ≡ slots_of (get_or types i d) ++ all_slots (drop (i + 1) types)
unfolding all_slots
first_slots types i d h = ap all_slots (drop_more types i d h)

no_slots : (types : List FrameType) (i : ℕ) → length types ≤ i → all_slots (drop i types) ≡ []
unfolding all_slots
no_slots types i h = ap all_slots (drop_all i types h)

pub add_step : (types : List FrameType) (i : ℕ) (d : FrameType) (slots : List Kind) → i < length types
    → slots ++ all_slots (drop i types) ≡ (slots ++ slots_of (get_or types i d)) ++ all_slots (drop (i + 1) types)
add_step types i d slots h =
    ap (λ more. slots ++ more) (first_slots types i d h) ∙ sym (append_assoc slots (slots_of (get_or types i d)) (all_slots (drop (i + 1) types)))

pub add_end : (types : List FrameType) (i : ℕ) (slots : List Kind) → length types ≤ i → slots ++ all_slots (drop i types) ≡ slots
add_end types i slots h = ap (λ more. slots ++ more) (no_slots types i h) ∙ append-nil slots

pub pile_step : (types : List FrameType) (i : ℕ) (d : FrameType) (stack : List Kind) → i < length types
    → reverse (all_slots (drop i types)) ++ stack ≡ reverse (all_slots (drop (i + 1) types)) ++ (reverse (slots_of (get_or types i d)) ++ stack)
pile_step types i d stack h =
    ap (λ more. reverse more ++ stack) (first_slots types i d h)
    ∙ ap (λ more. more ++ stack) (reverse-append (slots_of (get_or types i d)) (all_slots (drop (i + 1) types)))
    ∙ append_assoc (reverse (all_slots (drop (i + 1) types))) (reverse (slots_of (get_or types i d))) stack

pub pile_end : (types : List FrameType) (i : ℕ) (stack : List Kind) → length types ≤ i → reverse (all_slots (drop i types)) ++ stack ≡ stack
pile_end types i stack h = ap (λ more. reverse more ++ stack) (no_slots types i h)

-- one Top fewer is added behind one more
one_fewer : (n : ℕ) (slots : List Kind) → slots ++ replicate (suc n) kinds.Top ≡ (slots ++ kinds.Top ∷ []) ++ replicate n kinds.Top
one_fewer n slots = sym (append_assoc slots (kinds.Top ∷ []) (replicate n kinds.Top))

pub pad_step : (most : ℕ) (slots : List Kind) → length slots < most → padded most (slots ++ kinds.Top ∷ []) ≡ padded most slots
pad_step most slots h =
    let less : suc (most - length (slots ++ kinds.Top ∷ [])) ≡ most - length slots = omega (arith, length-append slots (kinds.Top ∷ [])) in
    sym (one_fewer (most - length (slots ++ kinds.Top ∷ [])) slots) ∙ ap (λ n. slots ++ replicate n kinds.Top) less

pub pad_end : (most : ℕ) (slots : List Kind) → most ≤ length slots → padded most slots ≡ slots
pad_end most slots h =
    let none : most - length slots ≡ 0 = omega arith in
    ap (λ n. slots ++ replicate n kinds.Top) none ∙ append-nil slots
