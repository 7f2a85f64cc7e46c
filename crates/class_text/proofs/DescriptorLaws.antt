-- A descriptor that is read is spelled so, and what is spelled so is read.
use Rattle.std.proofs.Common.{◌≡◌, ℕ, zero, suc, eqb, ltb, ◌+◌, ◌≤◌, Bool, true, false, not, List, [], ◌∷◌, ◌++◌, length, take, drop, get_or, flat_map, Option, Some, None, option_map, option_and_then, refl, sym, ap, subst, ◌∙◌, append_assoc, append-nil, arith, inl, inr}
use Rattle.std.specs.List.{AllByRecursion, position, position_or_len}
use Rattle.std.proofs.lemmas.Bool.{cases_Bool, eqb-true, ltb-true, lt-ltb, and_parts}
use Rattle.std.proofs.lemmas.List.{take_at, drop_at, take-append-drop, length-append}
use Rattle.std.proofs.lemmas.List.Quantifiers.{position-Some}
use Rattle.std.proofs.Math.Seq.{drop-cons}
use Rattle.class_model.specs.ClassNames.{is_class_name}
use Rattle.class_model.specs.Descriptors.{FieldType, primitive, object, array, dimensions, is_primitive, is_semicolon, class_up_to, component_at, deeper, field_type_at, alone, field_type, with_first, field_types_at, MethodType, is_void, return_type, behind, method_type}
use Rattle.class_model.proofs.ClassParts.{are_parts, parts_name}
use Rattle.class_text.specs.DescriptorText.{type_text, IsFieldType, result_text, IsResult, method_text, IsMethodType}
use Rattle.class_text.proofs.Numbers.{some_is}

abbrev FrontType : Type 0
FrontType = FieldType × List ℕ

-- what is read at the front is spelled there
abbrev IsSpelled : List ℕ → FrontType → Type 0
IsSpelled bytes found = IsFieldType found.0 × (bytes ≡ type_text found.0 ++ found.1)

class_spelled : (bytes : List ℕ) (n : ℕ) (found : FrontType) → position is_semicolon bytes ≡ Some n → class_up_to bytes n ≡ Some found → IsSpelled (76 ∷ bytes) found
class_spelled bytes n found at e = elim (cases_Bool (is_class_name (take n bytes))) [
  | inr f ↦ absurd (let bad : None ≡ Some found = rw f at e in cc)
  | inl y ↦ (let p = position-Some is_semicolon bytes n 0 at in
      let semicolon : get_or bytes n 0 ≡ 59 = eqb-true (get_or bytes n 0) 59 p.1 in
      let next : suc n ≡ n + 1 = omega arith in
      let more : drop n bytes ≡ 59 ∷ drop (n + 1) bytes = drop-cons bytes n 0 p.0 ∙ ap (λ (b : ℕ). b ∷ drop (suc n) bytes) semicolon ∙ ap (λ (k : ℕ). 59 ∷ drop k bytes) next in
      let parts : bytes ≡ (take n bytes ++ 59 ∷ []) ++ drop (n + 1) bytes = sym (take-append-drop n bytes) ∙ ap (λ (l : List ℕ). take n bytes ++ l) more ∙ sym (append_assoc (take n bytes) (59 ∷ []) (drop (n + 1) bytes)) in
      subst (IsSpelled (76 ∷ bytes)) (some_is (object (take n bytes), drop (n + 1) bytes) found (rw y at e)) (y, ap (λ (l : List ℕ). 76 ∷ l) parts))
]

component_spelled : (bytes : List ℕ) (found : FrontType) → component_at bytes ≡ Some found → IsSpelled bytes found
unfolding component_at
component_spelled [] found e = absurd cc
component_spelled (b ∷ bytes) found e = elim (cases_Bool (is_primitive b)) [
  | inl y ↦ subst (IsSpelled (b ∷ bytes)) (some_is (primitive b, bytes) found (rw y at e)) (y, refl)
  | inr f ↦ elim (cases_Bool (eqb b 76)) [
    | inl y ↦ subst (λ (k : ℕ). IsSpelled (k ∷ bytes) found) (sym (eqb-true b 76 y)) (go (position is_semicolon bytes) refl (rw (f, y) at e))
    | inr g ↦ absurd (let bad : None ≡ Some found = rw (f, g) at e in cc)
  ]
]
  where
    go : (at : Option ℕ) → position is_semicolon bytes ≡ at → option_and_then {U = FrontType} (class_up_to bytes) at ≡ Some found → IsSpelled (76 ∷ bytes) found
    go None is e = absurd cc
    go (Some n) is e = class_spelled bytes n found is e

front_spelled : (bytes : List ℕ) (found : FrontType) → field_type_at bytes ≡ Some found → IsSpelled bytes found
unfolding field_type_at
front_spelled [] found e = absurd cc
front_spelled (b ∷ bytes) found e = elim (cases_Bool (eqb b 91)) [
  | inr f ↦ component_spelled (b ∷ bytes) found (rw f at e)
  | inl y ↦ subst (λ (k : ℕ). IsSpelled (k ∷ bytes) found) (sym (eqb-true b 91 y)) (go (field_type_at bytes) (λ x is. front_spelled bytes x is) (rw y at e))
]
  where
    go : (inner : Option FrontType) → ((x : FrontType) → inner ≡ Some x → IsSpelled bytes x) → option_and_then deeper inner ≡ Some found → IsSpelled (91 ∷ bytes) found
    go None on e = absurd cc
    go (Some x) on e = elim (cases_Bool (ltb (dimensions x.0) 255)) [
      | inr f ↦ absurd (let bad : None ≡ Some found = rw f at e in cc)
      | inl y ↦ (let h = on x refl in subst (IsSpelled (91 ∷ bytes)) (some_is (array x.0, x.1) found (rw y at e)) ((ltb-true (dimensions x.0) 255 y, h.0), ap (λ (l : List ℕ). 91 ∷ l) h.1))
    ]

-- ---- and again

-- No semicolon stands in the name of a class.
name_parts : (fresh : Bool) (name : List ℕ) (rest : List ℕ) → are_parts fresh name ≡ true → position_or_len is_semicolon (name ++ 59 ∷ rest) ≡ length name
unfolding are_parts
name_parts fresh [] rest e = refl
name_parts fresh (b ∷ name) rest e = elim (cases_Bool (eqb b 59)) [
  | inl y ↦ absurd (let same = eqb-true b 59 y in let bad : are_parts fresh (59 ∷ name) ≡ true = subst (λ (k : ℕ). are_parts fresh (k ∷ name) ≡ true) same e in cc)
  | inr f ↦ elim (cases_Bool (eqb b 47)) [
    | inl y ↦ (let more = name_parts true name rest (and_parts (not fresh) (are_parts true name) (rw y at e)).1 in rw f (omega (arith, more)))
    | inr g ↦ (let more = name_parts false name rest (and_parts _ (are_parts false name) (rw g at e)).1 in rw f (omega (arith, more)))
  ]
]

class_again : (name rest : List ℕ) → is_class_name name ≡ true → option_and_then {U = FrontType} (class_up_to (name ++ 59 ∷ rest)) (position is_semicolon (name ++ 59 ∷ rest)) ≡ Some (object name, rest)
class_again name rest e =
    let at = name_parts true name rest (parts_name name ∙ e) in
    let within : ltb (length name) (length (name ++ 59 ∷ rest)) ≡ true = lt-ltb (length name) (length (name ++ 59 ∷ rest)) (omega (arith, length-append name (59 ∷ rest))) in
    let front : take (length name) (name ++ 59 ∷ rest) ≡ name = take_at name (59 ∷ rest) (length name) refl in
    let back : drop (length name + 1) (name ++ 59 ∷ rest) ≡ rest =
    ap (drop (length name + 1)) (sym (append_assoc name (59 ∷ []) rest)) ∙ drop_at (name ++ 59 ∷ []) rest (length name + 1) (length-append name (59 ∷ [])) in
    rw (at, within, front, back, e) refl

front_again : (t : FieldType) (rest : List ℕ) → IsFieldType t → field_type_at (type_text t ++ rest) ≡ Some (t, rest)
unfolding field_type_at component_at
front_again (primitive letter) rest is = elim (cases_Bool (eqb letter 91)) [
  | inl y ↦ absurd (let bad : is_primitive 91 ≡ true = subst (λ (k : ℕ). is_primitive k ≡ true) (eqb-true letter 91 y) is in cc)
  | inr f ↦ rw (f, is) refl
]
front_again (object name) rest is = ap (λ (l : List ℕ). option_and_then {U = FrontType} (class_up_to l) (position is_semicolon l)) (append_assoc name (59 ∷ []) rest) ∙ class_again name rest is
front_again (array t) rest is = rw (front_again t rest is.1, lt-ltb (dimensions t) 255 is.0) refl

pub field_taken : (bytes : List ℕ) (t : FieldType) → field_type bytes ≡ Some t → IsFieldType t × (bytes ≡ type_text t)
unfolding field_type
field_taken bytes t e = go (field_type_at bytes) refl e
  where
    go : (found : Option FrontType) → field_type_at bytes ≡ found → option_and_then alone found ≡ Some t → IsFieldType t × (bytes ≡ type_text t)
    go None is e = absurd cc
    go (Some (u, [])) is e = let h = front_spelled bytes (u, []) is in subst (λ (v : FieldType). IsFieldType v × (bytes ≡ type_text v)) (some_is u t e) (h.0, h.1 ∙ append-nil (type_text u))
    go (Some (u, b ∷ more)) is e = absurd cc

pub field_again : (t : FieldType) → IsFieldType t → field_type (type_text t) ≡ Some t
unfolding field_type
field_again t is = ap (λ (l : List ℕ). option_and_then alone (field_type_at l)) (sym (append-nil (type_text t))) ∙ rw (front_again t [] is) refl

-- ---- parameters

abbrev Parameters : Type 0
Parameters = List FieldType × List ℕ

abbrev AreSpelled : List ℕ → Parameters → Type 0
AreSpelled bytes found = AllByRecursion IsFieldType found.0 × (bytes ≡ flat_map type_text found.0 ++ 41 ∷ found.1)

closed : (b : ℕ) (bytes : List ℕ) (found : Parameters) → eqb b 41 ≡ true → ([], bytes) ≡ found → AreSpelled (b ∷ bytes) found
closed b bytes found y same = subst (AreSpelled (b ∷ bytes)) same (tt, ap (λ (k : ℕ). k ∷ bytes) (eqb-true b 41 y))

types_spelled : (most : ℕ) (bytes : List ℕ) (found : Parameters) → field_types_at most bytes ≡ Some found → AreSpelled bytes found
unfolding field_types_at
types_spelled zero [] found e = absurd cc
types_spelled (suc most) [] found e = absurd cc
types_spelled zero (b ∷ bytes) found e = elim (cases_Bool (eqb b 41)) [
  | inl y ↦ closed b bytes found y (some_is ([], bytes) found (rw y at e))
  | inr f ↦ absurd (let bad : None ≡ Some found = rw f at e in cc)
]
types_spelled (suc most) (b ∷ bytes) found e = elim (cases_Bool (eqb b 41)) [
  | inl y ↦ closed b bytes found y (some_is ([], bytes) found (rw y at e))
  | inr f ↦ go (field_type_at (b ∷ bytes)) (λ x is. front_spelled (b ∷ bytes) x is) (λ rest x is. types_spelled most rest x is) (rw f at e)
]
  where
    others : (t : FieldType) (rest : List ℕ) (more : Option Parameters) → ((x : Parameters) → more ≡ Some x → AreSpelled rest x) → IsSpelled (b ∷ bytes) (t, rest) → option_map (with_first t) more ≡ Some found → AreSpelled (b ∷ bytes) found
    others t rest None on first e = absurd cc
    others t rest (Some x) on first e =
        let h = on x refl in
        subst (AreSpelled (b ∷ bytes)) (some_is (with_first t x) found e)
        ((first.0, h.0), first.1 ∙ ap (λ (l : List ℕ). type_text t ++ l) h.1 ∙ sym (append_assoc (type_text t) (flat_map type_text x.0) (41 ∷ x.1)))

    go : (one : Option FrontType) → ((x : FrontType) → one ≡ Some x → IsSpelled (b ∷ bytes) x) → ((rest : List ℕ) (x : Parameters) → field_types_at most rest ≡ Some x → AreSpelled rest x) → option_and_then (λ found. option_map (with_first found.0) (field_types_at most found.1)) one ≡ Some found → AreSpelled (b ∷ bytes) found
    go None on more e = absurd cc
    go (Some x) on more e = others x.0 x.1 (field_types_at most x.1) (more x.1) (on x refl) e

-- a type begins with no parenthesis and no V
record Begins (t : FieldType) : Type 0 where
  letter : ℕ
  more : List ℕ
  text : type_text t ≡ letter ∷ more
  open_end : eqb letter 41 ≡ false
  no_void : eqb letter 86 ≡ false

letter_begins : (letter : ℕ) → is_primitive letter ≡ true → Begins (primitive letter)
letter_begins letter is = record { letter = letter; more = []; text = refl; open_end = never 41 (λ bad. cc); no_void = never 86 (λ bad. cc) }
  where
    never : (k : ℕ) → (is_primitive k ≡ true → ⊥) → eqb letter k ≡ false
    never k bad = elim (cases_Bool (eqb letter k)) [ inl y ↦ absurd (bad (subst (λ (n : ℕ). is_primitive n ≡ true) (eqb-true letter k y) is)) | inr f ↦ f ]

begins : (t : FieldType) → IsFieldType t → Begins t
begins (primitive letter) is = letter_begins letter is
begins (object name) is = record { letter = 76; more = name ++ 59 ∷ []; text = refl; open_end = refl; no_void = refl }
begins (array t) is = record { letter = 91; more = type_text t; text = refl; open_end = refl; no_void = refl }

types_again : (most : ℕ) (ts : List FieldType) (rest : List ℕ) → length ts ≤ most → AllByRecursion IsFieldType ts → field_types_at most (flat_map type_text ts ++ 41 ∷ rest) ≡ Some (ts, rest)
unfolding field_types_at
types_again zero [] rest few are = refl
types_again (suc most) [] rest few are = refl
types_again zero (t ∷ ts) rest few are = absurd (omega arith)
types_again (suc most) (t ∷ ts) rest few are =
    let b = begins t are.0 in
    let behind = flat_map type_text ts ++ 41 ∷ rest in
    let parts : flat_map type_text (t ∷ ts) ++ 41 ∷ rest ≡ b.letter ∷ (b.more ++ behind) = append_assoc (type_text t) (flat_map type_text ts) (41 ∷ rest) ∙ ap (λ (l : List ℕ). l ++ behind) b.text in
    let one : field_type_at (b.letter ∷ (b.more ++ behind)) ≡ Some (t, behind) = ap (λ (l : List ℕ). field_type_at (l ++ behind)) (sym b.text) ∙ front_again t behind are.0 in
    ap (field_types_at (suc most)) parts ∙ rw (b.open_end, one, types_again most ts rest (omega arith) are.1) refl

-- ---- results and methods

void_is : (bytes : List ℕ) → is_void bytes ≡ true → bytes ≡ 86 ∷ []
void_is [] e = absurd cc
void_is (b ∷ []) e = ap (λ (k : ℕ). k ∷ []) (eqb-true b 86 e)
void_is (b ∷ c ∷ bytes) e = absurd cc

not_void : (b : ℕ) (bytes : List ℕ) → eqb b 86 ≡ false → is_void (b ∷ bytes) ≡ false
not_void b [] f = f
not_void b (c ∷ bytes) f = refl

result_taken : (bytes : List ℕ) (r : Option FieldType) → return_type bytes ≡ Some r → IsResult r × (bytes ≡ result_text r)
result_taken bytes r e = elim (cases_Bool (is_void bytes)) [
  | inl y ↦ subst (λ (q : Option FieldType). IsResult q × (bytes ≡ result_text q)) (some_is {A = Option FieldType} None r (rw y at e)) (tt, void_is bytes y)
  | inr f ↦ go (field_type bytes) (λ t is. field_taken bytes t is) (rw f at e)
]
  where
    go : (found : Option FieldType) → ((t : FieldType) → found ≡ Some t → IsFieldType t × (bytes ≡ type_text t)) → option_map {U = Option FieldType} Some found ≡ Some r → IsResult r × (bytes ≡ result_text r)
    go None on e = absurd cc
    go (Some t) on e = subst (λ (q : Option FieldType). IsResult q × (bytes ≡ result_text q)) (some_is (Some t) r e) (on t refl)

result_again : (r : Option FieldType) → IsResult r → return_type (result_text r) ≡ Some r
result_again None is = refl
result_again (Some t) is =
    let b = begins t is in
    let plain : is_void (type_text t) ≡ false = ap is_void b.text ∙ not_void b.letter b.more b.no_void in
    rw (plain, field_again t is) refl

pub method_taken : (bytes : List ℕ) (m : MethodType) → method_type bytes ≡ Some m → IsMethodType m × (bytes ≡ method_text m)
unfolding method_type
method_taken [] m e = absurd cc
method_taken (b ∷ bytes) m e = elim (cases_Bool (eqb b 40)) [
  | inr f ↦ absurd (let bad : None ≡ Some m = rw f at e in cc)
  | inl y ↦ go (field_types_at (length bytes) bytes) (λ x is. types_spelled (length bytes) bytes x is) (ap (λ (k : ℕ). k ∷ bytes) (eqb-true b 40 y)) (rw y at e)
]
  where
    made : List FieldType → Option FieldType → MethodType
    made ts r = record { parameters = ts; returned = r }

    result : (x : Parameters) (r : Option (Option FieldType)) → return_type x.1 ≡ r → AreSpelled bytes x → b ∷ bytes ≡ 40 ∷ bytes → option_map (made x.0) r ≡ Some m → IsMethodType m × (b ∷ bytes ≡ method_text m)
    result x None is types first e = absurd cc
    result x (Some r) is types first e =
        let h = result_taken x.1 r is in
        subst (λ (q : MethodType). IsMethodType q × (b ∷ bytes ≡ method_text q)) (some_is (made x.0 r) m e)
        ((types.0, h.0), first ∙ ap (λ (l : List ℕ). 40 ∷ l) types.1 ∙ ap (λ (l : List ℕ). 40 ∷ flat_map type_text x.0 ++ 41 ∷ l) h.1)

    go : (found : Option Parameters) → ((x : Parameters) → found ≡ Some x → AreSpelled bytes x) → b ∷ bytes ≡ 40 ∷ bytes → option_and_then behind found ≡ Some m → IsMethodType m × (b ∷ bytes ≡ method_text m)
    go None on first e = absurd cc
    go (Some x) on first e = result x (return_type x.1) refl (on x refl) first e

-- each type takes a byte at least
some_bytes : (ts : List FieldType) → AllByRecursion IsFieldType ts → length ts ≤ length (flat_map type_text ts)
some_bytes [] are = omega arith
some_bytes (t ∷ ts) are =
    let b = begins t are.0 in
    let more = some_bytes ts are.1 in
    omega (arith, more, ap length b.text, length-append (type_text t) (flat_map type_text ts))

pub method_again : (m : MethodType) → IsMethodType m → method_type (method_text m) ≡ Some m
unfolding method_type
method_again m is =
    let bytes = flat_map type_text m.parameters ++ 41 ∷ result_text m.returned in
    let few : length m.parameters ≤ length bytes = omega (arith, some_bytes m.parameters is.0, length-append (flat_map type_text m.parameters) (41 ∷ result_text m.returned)) in
    rw (types_again (length bytes) m.parameters (result_text m.returned) few is.0, result_again m.returned is.1) refl
