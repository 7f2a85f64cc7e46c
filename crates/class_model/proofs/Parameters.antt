-- The parameters of a method are read one after another.
use Rattle.std.proofs.Common.{◌≡◌, ℕ, zero, suc, eqb, ltb, ◌+◌, ◌<◌, ◌≤◌, Bool, true, false, ◌&&◌, leb, sum_by, position, List, [], ◌∷◌, length, take, drop, Option, Some, None, unwrap_or, option_map, option_and_then, refl, ◌∙◌, ap, inl, inr, arith, length-drop}
use Rattle.std.proofs.lemmas.Bool.{cases_Bool, le-leb, lt-leb, ne_eqb, and_right}
use Rattle.std.proofs.lemmas.List.Sums.{sum_by-cons}
use Rattle.class_model.specs.ClassNames.{is_class_name}
use Rattle.class_model.specs.Descriptors.{FieldType, dimensions, object, array, slots, deeper, class_up_to, is_semicolon, is_primitive, primitive, component_at, field_type_at, field_types_at, with_first, is_return_descriptor}
use Rattle.class_model.specs.TypeForms.{are_within}

-- a pair that was read
same_rest : {A : Type 0} (t u : A) (x y : List ℕ) → (let p : A × List ℕ = (t, x) in let q : A × List ℕ = (u, y) in Some p ≡ Some q) → x ≡ y
same_rest {A = A} t u x y e = ap (λ (o : Option (A × List ℕ)). (unwrap_or o (t, x)).1) e

-- A type takes bytes.
class_shorter : (bytes : List ℕ) (n : ℕ) (t : FieldType) (more : List ℕ) → class_up_to bytes n ≡ Some (t, more) → length more ≤ length bytes
class_shorter bytes n t more e = elim (cases_Bool (is_class_name (take n bytes))) [
  | inl y ↦ omega (arith, length-drop (n + 1) bytes, ap length (same_rest (object (take n bytes)) t (drop (n + 1) bytes) more (rw y at e)))
  | inr f ↦ absurd (let none : None ≡ Some (t, more) = rw f at e in cc)
]

component_shorter : (b : ℕ) (bytes : List ℕ) (t : FieldType) (more : List ℕ) → component_at (b ∷ bytes) ≡ Some (t, more) → length more ≤ length bytes
unfolding component_at
component_shorter b bytes t more e = elim (cases_Bool (is_primitive b)) [
  | inl y ↦ omega (arith, ap length (same_rest (primitive b) t bytes more (rw y at e)))
  | inr f ↦ elim (cases_Bool (eqb b 76)) [ inl y ↦ named (position is_semicolon bytes) (rw (f, y) at e) | inr g ↦ absurd (let none : None ≡ Some (t, more) = rw (f, g) at e in cc) ]
]
  where
    named : (found : Option ℕ) → option_and_then (class_up_to bytes) found ≡ Some (t, more) → length more ≤ length bytes
    named None e = cc
    named (Some n) e = class_shorter bytes n t more e

deeper_shorter : (bytes : List ℕ) (t : FieldType) (more : List ℕ) (found : Option (FieldType × List ℕ))
    → ((u : FieldType) (rest : List ℕ) → found ≡ Some (u, rest) → length rest < length bytes) → option_and_then deeper found ≡ Some (t, more) → length more < length bytes
deeper_shorter bytes t more None within e = cc
deeper_shorter bytes t more (Some (u, rest)) within e = elim (cases_Bool (ltb (dimensions u) 255)) [
  | inl y ↦ omega (arith, within u rest refl, ap length (same_rest (array u) t rest more (rw y at e)))
  | inr f ↦ absurd (let none : None ≡ Some (t, more) = rw f at e in cc)
]

pub shorter : (bytes : List ℕ) (t : FieldType) (more : List ℕ) → field_type_at bytes ≡ Some (t, more) → length more < length bytes
unfolding field_type_at
shorter [] t more e = cc
shorter (b ∷ bytes) t more e = elim (cases_Bool (eqb b 91)) [
  | inl y ↦ omega (arith, deeper_shorter bytes t more (field_type_at bytes) (λ u rest at. shorter bytes u rest at) (rw y at e))
  | inr f ↦ omega (arith, component_shorter b bytes t more (rw f at e))
]

-- the step of reading types: what stands behind the first is read on
abbrev pub then_types : (List ℕ → Option (List FieldType × List ℕ)) → Option (FieldType × List ℕ) → Option (List FieldType × List ℕ)
then_types read found = option_and_then (λ f. option_map (with_first f.0) (read f.1)) found

pub types_end : (most : ℕ) (after : List ℕ) → field_types_at most (41 ∷ after) ≡ Some ([], after)
unfolding field_types_at
types_end zero after = refl
types_end (suc most) after = refl

pub types_step : (most b : ℕ) (bytes : List ℕ) → eqb b 41 ≡ false → field_types_at (suc most) (b ∷ bytes) ≡ then_types (field_types_at most) (field_type_at (b ∷ bytes))
unfolding field_types_at
types_step most b bytes not = rw not refl

-- Two readers that agree on what is shorter go on alike.
then_same : (read other : List ℕ → Option (List FieldType × List ℕ)) (bytes : List ℕ) (found : Option (FieldType × List ℕ))
    → ((t : FieldType) (rest : List ℕ) → found ≡ Some (t, rest) → length rest < length bytes)
    → ((rest : List ℕ) → length rest < length bytes → read rest ≡ other rest) → then_types read found ≡ then_types other found
then_same read other bytes None within same = refl
then_same read other bytes (Some (t, rest)) within same = ap (option_map (with_first t)) (same rest (within t rest refl))

-- more rounds than there are bytes change nothing
pub enough : (few more : ℕ) (bytes : List ℕ) → length bytes ≤ few → length bytes ≤ more → field_types_at few bytes ≡ field_types_at more bytes
unfolding field_types_at
enough zero zero bytes p q = refl
enough zero (suc more) [] p q = refl
enough zero (suc more) (b ∷ bytes) p q = absurd (omega arith)
enough (suc few) zero [] p q = refl
enough (suc few) zero (b ∷ bytes) p q = absurd (omega arith)
enough (suc few) (suc more) [] p q = refl
enough (suc few) (suc more) (b ∷ bytes) p q = elim (cases_Bool (eqb b 41)) [
  | inl y ↦ rw y refl
  | inr f ↦ rw f (then_same (field_types_at few) (field_types_at more) (b ∷ bytes) (field_type_at (b ∷ bytes)) (shorter (b ∷ bytes)) (λ rest less. enough few more rest (omega arith) (omega arith)))
]

abbrev pub types_of : List ℕ → Option (List FieldType × List ℕ)
types_of bytes = field_types_at (length bytes) bytes

end_within : (most used : ℕ) (after : List ℕ) → used ≤ most → are_within most used (Some ([], after)) ≡ is_return_descriptor after
end_within most used after few =
    let fits : leb (used + 0) most ≡ true = le-leb (used + 0) most (omega arith) in
    ap (λ b. is_return_descriptor after && b) fits ∙ and_true (is_return_descriptor after)
  where
    and_true : (b : Bool) → (b && true) ≡ b
    and_true true = refl
    and_true false = refl

pub closing : (most used : ℕ) (bytes after : List ℕ) (b : ℕ) → bytes ≡ b ∷ after → b ≡ 41 → used ≤ most → are_within most used (types_of bytes) ≡ is_return_descriptor after
closing most used bytes after b at is few =
    ap (λ (l : List ℕ). are_within most used (types_of l)) (at ∙ ap (λ c. c ∷ after) is) ∙ ap (are_within most used) (types_end (length (41 ∷ after)) after) ∙ end_within most used after few

-- the step at bytes that don't begin with a closing parenthesis
pub step : (bytes after : List ℕ) (b : ℕ) → bytes ≡ b ∷ after → (b ≡ 41 → ⊥) → types_of bytes ≡ then_types (field_types_at (length after)) (field_type_at bytes)
step bytes after b at not = rw at (types_step (length after) b after (ne_eqb b 41 not))

pub none_there : (most used : ℕ) (bytes after : List ℕ) (b : ℕ) → bytes ≡ b ∷ after → (b ≡ 41 → ⊥) → field_type_at bytes ≡ None → are_within most used (types_of bytes) ≡ false
none_there most used bytes after b at not e =
    ap (are_within most used) (step bytes after b at not ∙ ap (then_types (field_types_at (length after))) e)

more_within : (most used : ℕ) (t : FieldType) (found : Option (List FieldType × List ℕ)) → are_within most used (option_map (with_first t) found) ≡ are_within most (used + slots t) found
more_within most used t None = refl
more_within most used t (Some (ts, rest)) =
    let same : used + sum_by slots (t ∷ ts) ≡ used + slots t + sum_by slots ts = omega (arith, sum_by-cons slots t ts) in
    ap (λ (n : ℕ). is_return_descriptor rest && leb n most) same

pub passed : (most used : ℕ) (bytes after more : List ℕ) (b : ℕ) (t : FieldType) (slots_of : ℕ) → bytes ≡ b ∷ after → (b ≡ 41 → ⊥) → field_type_at bytes ≡ Some (t, more)
    → slots_of ≡ slots t → are_within most used (types_of bytes) ≡ are_within most (used + slots_of) (types_of more)
passed most used bytes after more b t slots_of at not e count =
    let less : length more ≤ length after = omega (arith, shorter bytes t more e, ap length at) in
    ap (are_within most used) (step bytes after b at not ∙ ap (then_types (field_types_at (length after))) e)
    ∙ more_within most used t (field_types_at (length after) more)
    ∙ rw (← count) (ap (are_within most (used + slots_of)) (enough (length after) (length more) more less (omega arith)))

pub too_much : (most used : ℕ) (found : Option (List FieldType × List ℕ)) → most < used → are_within most used found ≡ false
too_much most used None many = refl
too_much most used (Some (ts, rest)) many = and_right (is_return_descriptor rest) (leb (used + sum_by slots ts) most) (lt-leb (used + sum_by slots ts) most (omega arith))

pub nothing_left : (most used : ℕ) (bytes : List ℕ) → length bytes ≡ 0 → are_within most used (types_of bytes) ≡ false
unfolding field_types_at
nothing_left most used [] e = refl
nothing_left most used (b ∷ bytes) e = absurd (omega arith)
