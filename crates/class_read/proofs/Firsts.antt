-- The marks of what was read say whether a known name stands there already.
use Rattle.std.proofs.Common.{◌≡◌, Bool, true, false, not, ◌&&◌, ◌||◌, List, [], ◌∷◌, ◌++◌, ℕ, map, codes, bytes_eq, refl, sym, ap, subst, ◌∙◌, inl, inr}
use Rattle.std.specs.List.{list_any}
use Rattle.std.proofs.lemmas.Bool.{cases_Bool}
use Rattle.std.proofs.lemmas.Slice.Eq.{bytes_eq-Decides}
use Rattle.class_model.specs.declared.constant_pool.Pool.{Pool}
use Rattle.class_model.specs.declared.attribute_forms.Attribute.{Attribute}
use Rattle.class_model.specs.Attributes.{Place, in_class, in_field, in_method, in_code, is_known, attribute_name}
use Rattle.class_text.specs.Attributes.{is_first, own_name}
use Rattle.class_read.specs.Stands.{is_among, Keeps}
use Rattle.class_read.specs.declared.stands.SeenAttributes.{SeenAttributes}

-- a known name stands there where it is among the names
known_once : (place : Place) (names : List (List ℕ)) (a : List ℕ) → is_known place a ≡ true → list_any (λ e. is_known place e && bytes_eq e a) names ≡ is_among names a
known_once place [] a k = refl
known_once place (n ∷ names) a k = elim (cases_Bool (bytes_eq n a)) [
  | inl y ↦ (let known : is_known place n ≡ true = subst (λ (x : List ℕ). is_known place x ≡ true) (sym ((bytes_eq-Decides n a).0 y)) k in rw (known, y) refl)
  | inr f ↦ rw (f, known_once place names a k) (ap (λ (b : Bool). b || is_among names a) (and_false (is_known place n)))
]
  where
    and_false : (b : Bool) → (b && false) ≡ false
    and_false true = refl
    and_false false = refl

never_known : (place : Place) (names : List (List ℕ)) (a : List ℕ) → is_known place a ≡ false → list_any (λ e. is_known place e && bytes_eq e a) names ≡ false
never_known place [] a k = refl
never_known place (n ∷ names) a k = elim (cases_Bool (bytes_eq n a)) [
  | inl y ↦ (let known : is_known place n ≡ false = subst (λ (x : List ℕ). is_known place x ≡ false) (sym ((bytes_eq-Decides n a).0 y)) k in rw (known, never_known place names a k) refl)
  | inr f ↦ rw (f, never_known place names a k) (ap (λ (b : Bool). b || false) (and_false (is_known place n)))
]
  where
    and_false : (b : Bool) → (b && false) ≡ false
    and_false true = refl
    and_false false = refl

own_is_known : (place : Place) → is_known place (own_name place) ≡ true
unfolding is_known
own_is_known in_class = refl
own_is_known (in_field d) = refl
own_is_known in_method = refl
own_is_known in_code = refl

-- a known name that isn't the place's own is that of annotations
other_known : (place : Place) (text : List ℕ) → is_known place text ≡ true → bytes_eq text (own_name place) ≡ false → text ≡ codes "RuntimeVisibleAnnotations"
unfolding is_known
other_known in_class text k o = last (codes "BootstrapMethods") k o
  where
    last : (a : List ℕ) → (bytes_eq text a || (bytes_eq text (codes "RuntimeVisibleAnnotations") || false)) ≡ true → bytes_eq text a ≡ false → text ≡ codes "RuntimeVisibleAnnotations"
    last a k o = elim (cases_Bool (bytes_eq text (codes "RuntimeVisibleAnnotations"))) [
      | inl y ↦ (bytes_eq-Decides text (codes "RuntimeVisibleAnnotations")).0 y
      | inr f ↦ absurd (let h : false ≡ true = rw (o, f) at k in cc)
    ]
other_known (in_field d) text k o = last (codes "ConstantValue") k o
  where
    last : (a : List ℕ) → (bytes_eq text a || (bytes_eq text (codes "RuntimeVisibleAnnotations") || false)) ≡ true → bytes_eq text a ≡ false → text ≡ codes "RuntimeVisibleAnnotations"
    last a k o = elim (cases_Bool (bytes_eq text (codes "RuntimeVisibleAnnotations"))) [
      | inl y ↦ (bytes_eq-Decides text (codes "RuntimeVisibleAnnotations")).0 y
      | inr f ↦ absurd (let h : false ≡ true = rw (o, f) at k in cc)
    ]
other_known in_method text k o = last (codes "Code") k o
  where
    last : (a : List ℕ) → (bytes_eq text a || (bytes_eq text (codes "RuntimeVisibleAnnotations") || false)) ≡ true → bytes_eq text a ≡ false → text ≡ codes "RuntimeVisibleAnnotations"
    last a k o = elim (cases_Bool (bytes_eq text (codes "RuntimeVisibleAnnotations"))) [
      | inl y ↦ (bytes_eq-Decides text (codes "RuntimeVisibleAnnotations")).0 y
      | inr f ↦ absurd (let h : false ≡ true = rw (o, f) at k in cc)
    ]
other_known in_code text k o = absurd (let h : false ≡ true = rw o at k in cc)

pub first_own : (pool : Pool) (place : Place) (found : SeenAttributes) (text : List ℕ) → Keeps pool place found → bytes_eq text (own_name place) ≡ true
    → not found.own ≡ is_first (is_known place) bytes_eq (map (attribute_name pool) found.list) text
unfolding is_first
first_own pool place found text keeps is =
    let same : text ≡ own_name place = (bytes_eq-Decides text (own_name place)).0 is in
    ap not (keeps.own ∙ sym (known_once place (map (attribute_name pool) found.list) (own_name place) (own_is_known place)))
    ∙ ap (λ (t : List ℕ). not (list_any (λ e. is_known place e && bytes_eq e t) (map (attribute_name pool) found.list))) (sym same)

pub first_annotations : (pool : Pool) (place : Place) (found : SeenAttributes) (text : List ℕ) → Keeps pool place found → bytes_eq text (own_name place) ≡ false → is_known place text ≡ true
    → not found.annotations ≡ is_first (is_known place) bytes_eq (map (attribute_name pool) found.list) text
unfolding is_first
first_annotations pool place found text keeps isnt known =
    let same : text ≡ codes "RuntimeVisibleAnnotations" = other_known place text known isnt in
    let k : is_known place (codes "RuntimeVisibleAnnotations") ≡ true = subst (λ (t : List ℕ). is_known place t ≡ true) same known in
    ap not (keeps.annotations ∙ sym (known_once place (map (attribute_name pool) found.list) (codes "RuntimeVisibleAnnotations") k))
    ∙ ap (λ (t : List ℕ). not (list_any (λ e. is_known place e && bytes_eq e t) (map (attribute_name pool) found.list))) (sym same)

pub first_unknown : (pool : Pool) (place : Place) (list : List Attribute) (text : List ℕ) → is_known place text ≡ false → true ≡ is_first (is_known place) bytes_eq (map (attribute_name pool) list) text
unfolding is_first
first_unknown pool place list text k = ap not (sym (never_known place (map (attribute_name pool) list) text k))

among_more : (names : List (List ℕ)) (n a : List ℕ) → is_among (names ++ n ∷ []) a ≡ is_among names a || bytes_eq n a
among_more [] n a = or_false (bytes_eq n a)
  where
    or_false : (b : Bool) → (b || false) ≡ b
    or_false true = refl
    or_false false = refl
among_more (m ∷ names) n a = ap (λ (b : Bool). bytes_eq m a || b) (among_more names n a) ∙ grouped (bytes_eq m a)
  where
    grouped : (b : Bool) → (b || (is_among names a || bytes_eq n a)) ≡ ((b || is_among names a) || bytes_eq n a)
    grouped true = refl
    grouped false = refl

names_more : (pool : Pool) (list : List Attribute) (x : Attribute) → map (attribute_name pool) (list ++ x ∷ []) ≡ map (attribute_name pool) list ++ attribute_name pool x ∷ []
names_more pool [] x = refl
names_more pool (y ∷ list) x = ap (λ (l : List (List ℕ)). attribute_name pool y ∷ l) (names_more pool list x)

-- a mark of a name, after one more attribute
pub marked : (pool : Pool) (list more : List Attribute) (x : Attribute) (a : List ℕ) (mark : Bool) → more ≡ list ++ x ∷ [] → mark ≡ is_among (map (attribute_name pool) list) a
    → (mark || bytes_eq (attribute_name pool x) a) ≡ is_among (map (attribute_name pool) more) a
marked pool list more x a mark same is =
    ap (λ (b : Bool). b || bytes_eq (attribute_name pool x) a) is ∙ sym (among_more (map (attribute_name pool) list) (attribute_name pool x) a)
    ∙ ap (λ (l : List (List ℕ)). is_among l a) (sym (names_more pool list x)) ∙ ap (λ (l : List Attribute). is_among (map (attribute_name pool) l) a) (sym same)
