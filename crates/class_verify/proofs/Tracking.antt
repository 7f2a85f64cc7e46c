-- The types of locals, one more or one fewer.
use Rattle.std.proofs.Common.{◌≡◌, ℕ, suc, ◌+◌, ◌-◌, ◌<◌, ◌≤◌, Bool, true, false, ◌||◌, cond, List, [], ◌∷◌, ◌++◌, length, take, drop, get_or, refl, sym, ap, ◌∙◌, arith, append_assoc, length-append, inl, inr}
use Rattle.std.specs.Prelude.{nat_lt, filter, flat_map}
use Rattle.std.specs.List.{list_any}
use Rattle.std.proofs.lemmas.Bool.{cases_Bool, lt-ltb}
use Rattle.std.proofs.lemmas.List.{append-nil, take_at, drop_more, drop_all}
use Rattle.std.proofs.lemmas.List.Elements.{filter-append}
use Rattle.class_model.specs.declared.stack_map.FrameType.{FrameType}
use Rattle.class_verify.specs.declared.local_types.LocalTypes.{LocalTypes}
use Rattle.class_verify.specs.Frames.{is_float, slots_of, all_slots}
use Rattle.class_verify.specs.LocalTypes.{AreTold}

flat_map-append : {X A : Type 0} (f : X → List A) (xs ys : List X) → flat_map f (xs ++ ys) ≡ flat_map f xs ++ flat_map f ys
flat_map-append f [] ys = refl
flat_map-append f (x ∷ xs) ys = ap (λ r. f x ++ r) (flat_map-append f xs ys) ∙ sym (append_assoc (f x) (flat_map f xs) (flat_map f ys))

pub one_more : (types : List FrameType) (t : FrameType) → all_slots (types ++ t ∷ []) ≡ all_slots types ++ slots_of t
unfolding all_slots
one_more types t = flat_map-append slots_of types (t ∷ []) ∙ ap (λ r. flat_map slots_of types ++ r) (append-nil (slots_of t))

pub no_slots : all_slots [] ≡ []
unfolding all_slots
no_slots = refl

-- the last type has the last slots
pub one_fewer : (types : List FrameType) (t : FrameType) → take (length (all_slots (types ++ t ∷ [])) - length (slots_of t)) (all_slots (types ++ t ∷ [])) ≡ all_slots types
one_fewer types t =
    let len : length (all_slots types) ≡ length (all_slots types ++ slots_of t) - length (slots_of t) = omega (arith, length-append (all_slots types) (slots_of t)) in
    ap (λ s. take (length s - length (slots_of t)) s) (one_more types t) ∙ take_at (all_slots types) (slots_of t) _ len

pub one_float_more : (types : List FrameType) (t : FrameType) → is_float t ≡ true → length (filter is_float (types ++ t ∷ [])) ≡ length (filter is_float types) + 1
one_float_more types t e =
    ap length (filter-append is_float types (t ∷ [])) ∙ length-append (filter is_float types) (filter is_float (t ∷ []))
    ∙ ap (λ b. length (filter is_float types) + length (cond b (t ∷ []) [])) e

pub no_float_more : (types : List FrameType) (t : FrameType) → is_float t ≡ false → length (filter is_float (types ++ t ∷ [])) ≡ length (filter is_float types)
no_float_more types t e =
    let sum : length (filter is_float (types ++ t ∷ [])) ≡ length (filter is_float types) + 0 =
    ap length (filter-append is_float types (t ∷ [])) ∙ length-append (filter is_float types) (filter is_float (t ∷ []))
    ∙ ap (λ b. length (filter is_float types) + length (cond b (t ∷ []) [])) e in
    omega arith

-- there are no more of them than types
pub floats_within : (types : List FrameType) → length (filter is_float types) ≤ length types
floats_within [] = omega arith
floats_within (t ∷ types) = by_test (is_float t) (floats_within types)
  where
    by_test : (b : Bool) → length (filter is_float types) ≤ length types → length (cond b (t ∷ filter is_float types) (filter is_float types)) ≤ suc (length types)
    by_test true fewer = omega arith
    by_test false fewer = omega arith

-- one of them is a float where their number isn't 0
pub some_float : (types : List FrameType) → nat_lt 0 (length (filter is_float types)) ≡ list_any is_float types
some_float [] = refl
some_float (t ∷ types) =
    let of : Bool → Bool = λ b. nat_lt 0 (length (cond b (t ∷ filter is_float types) (filter is_float types))) in
    elim (cases_Bool (is_float t)) [
      | inl holds ↦ ap of holds ∙ lt-ltb 0 (suc (length (filter is_float types))) (omega arith) ∙ sym (ap (λ b. b || list_any is_float types) holds)
      | inr fails ↦ ap of fails ∙ some_float types ∙ sym (ap (λ b. b || list_any is_float types) fails)
    ]

with_one : (types : List FrameType) (t : FrameType) (floats : ℕ) → floats ≡ length (filter is_float types)
    → cond (is_float t) (floats + 1) floats ≡ length (filter is_float (types ++ t ∷ []))
with_one types t floats e =
    elim (cases_Bool (is_float t)) [
      | inl holds ↦ ap (λ b. cond b (floats + 1) floats) holds ∙ ap (λ n. n + 1) e ∙ sym (one_float_more types t holds)
      | inr fails ↦ ap (λ b. cond b (floats + 1) floats) fails ∙ e ∙ sym (no_float_more types t fails)
    ]

without_one : (types : List FrameType) (t : FrameType) (floats : ℕ) → floats ≡ length (filter is_float (types ++ t ∷ []))
    → cond (is_float t) (floats - 1) floats ≡ length (filter is_float types)
without_one types t floats e =
    elim (cases_Bool (is_float t)) [
      | inl holds ↦
          (let less : floats - 1 ≡ length (filter is_float types) = omega (arith, one_float_more types t holds) in
          ap (λ b. cond b (floats - 1) floats) holds ∙ less)
      | inr fails ↦ ap (λ b. cond b (floats - 1) floats) fails ∙ e ∙ no_float_more types t fails
    ]

pub told_more : (l m : LocalTypes) (t : FrameType) → AreTold l → m.types.items ≡ l.types.items ++ t ∷ [] → m.slots ≡ l.slots ++ slots_of t
    → m.floats ≡ cond (is_float t) (l.floats + 1) l.floats → AreTold m
told_more l m t told types slots floats = record {
  floats = floats ∙ with_one l.types.items t l.floats told.floats ∙ ap (λ x. length (filter is_float x)) (sym types);
  slots = slots ∙ ap (λ x. x ++ slots_of t) told.slots ∙ sym (one_more l.types.items t) ∙ ap all_slots (sym types);
}

pub told_fewer : (l m : LocalTypes) (t : FrameType) → AreTold l → l.types.items ≡ m.types.items ++ t ∷ []
    → m.slots ≡ take (length l.slots - length (slots_of t)) l.slots → m.floats ≡ cond (is_float t) (l.floats - 1) l.floats → AreTold m
told_fewer l m t told types slots floats = record {
  floats = floats ∙ without_one m.types.items t l.floats (told.floats ∙ ap (λ x. length (filter is_float x)) types);
  slots = slots ∙ ap (λ s. take (length s - length (slots_of t)) s) (told.slots ∙ ap all_slots types) ∙ one_fewer m.types.items t;
}

-- their number has room for one more where the types have
pub floats_small : (l : LocalTypes) → AreTold l → l.floats ≤ length l.types.items
floats_small l told = omega (arith, told.floats, floats_within l.types.items)

pub told_none : (l : LocalTypes) → l.types.items ≡ [] → l.slots ≡ [] → l.floats ≡ 0 → AreTold l
told_none l types slots floats = record {
  floats = floats ∙ ap (λ x. length (filter is_float x)) (sym types);
  slots = slots ∙ sym no_slots ∙ ap all_slots (sym types);
}

pub told_float : (l : LocalTypes) → AreTold l → nat_lt 0 l.floats ≡ list_any is_float l.types.items
told_float l told = ap (nat_lt 0) told.floats ∙ some_float l.types.items

pub told_same : (l m : LocalTypes) → AreTold l → m.types ≡ l.types → m.slots ≡ l.slots → m.floats ≡ l.floats → AreTold m
told_same l m told types slots floats = record {
  floats = floats ∙ told.floats ∙ ap (λ x. length (filter is_float x.items)) (sym types);
  slots = slots ∙ told.slots ∙ ap (λ x. all_slots x.items) (sym types);
}

pub push_step : (xs types : List FrameType) (i : ℕ) (d : FrameType) → i < length types
    → (xs ++ get_or types i d ∷ []) ++ drop (i + 1) types ≡ xs ++ drop i types
push_step xs types i d h =
    append_assoc xs (get_or types i d ∷ []) (drop (i + 1) types) ∙ ap (λ r. xs ++ r) (sym (drop_more types i d h))

pub push_end : (xs types : List FrameType) (i : ℕ) → length types ≤ i → xs ++ drop i types ≡ xs
push_end xs types i h = ap (λ r. xs ++ r) (drop_all i types h) ∙ append-nil xs
