-- A constant that is read is spelled so, and what is spelled so is read.
use Rattle.std.proofs.Common.{◌≡◌, ℕ, eqb, ltb, ◌^◌, ◌<◌, ◌≤◌, ◌⊎◌, true, false, ◌&&◌, List, [], ◌∷◌, ◌++◌, length, take, drop, Option, Some, None, option_map, option_and_then, Ok, Err, refl, sym, ap, subst, ◌∙◌, append_assoc, arith, inl, inr}
use Rattle.std.specs.Int.{Width, w16, w32, w64, to_be_bytes}
use Rattle.std.proofs.lemmas.Bool.{cases_Bool, eqb-true, eqb-false, ltb-false, le-ltb, and_cases, or_left, or_right}
use Rattle.std.proofs.lemmas.Bool.Decides.{nat_tests}
use Rattle.std.proofs.lemmas.List.{take_at, drop_at, take-append-drop, length-append, length-take}
use Rattle.class_model.specs.declared.constant_pool.Constant.{Constant}
use Rattle.class_model.specs.declared.constant_pool.Constant.TheVariants.{Utf8, Integer, Float, Long, Double, Class, Text, Ref, NameType, Handle, MethodType, InvokeDynamic, Second}
use Rattle.class_model.specs.Units.{is_text}
use Rattle.class_model.specs.Constants.{IsConstant, takes_two, is_second}
use Rattle.class_model.specs.Spelling.{constant}
use Rattle.class_model.proofs.TextLemmas.{is_text-grammar}
use Rattle.class_text.specs.Reading.{cut_short, bad_tag, bad_text, ◌>>=◌, place, number_at, or_cut, IsBytes}
use Rattle.class_text.specs.Pool.{constant_of_one, constant_of_two, method_handle_at, fixed_at, is_tag, is_wide, text_behind_length, utf8_at, constant_at_front}
use Rattle.class_text.proofs.Numbers.{IsBytes-drop, IsBytes-rest, ok_is, some_is, Takes, Takes-then, Takes-behind, IsWide, wide16, wide32, wide64, number_takes, number_again}

-- a constant that was taken from the front, where so many numbers are left
pub record IsTaken (left : ℕ) (bytes : List ℕ) (c : Constant) (rest : List ℕ) : Type 0 where
  pub takes : Takes bytes (constant c) rest
  pub fits : IsConstant c
  pub plain : is_second c ≡ false
  pub room : takes_two c ≡ true → 2 ≤ left

one_taken : (left tag : ℕ) (w : Width) (limit : ℕ) (wide : IsWide w limit) (make : ℕ → Constant)
    → ((n : ℕ) → constant (make n) ≡ tag ∷ to_be_bytes w n) → ((n : ℕ) → n < limit → IsConstant (make n)) → ((n : ℕ) → is_second (make n) ≡ false)
    → ((n : ℕ) → takes_two (make n) ≡ true → 2 ≤ left)
    → (bytes : List ℕ) (c : Constant) (rest : List ℕ) → IsBytes bytes → constant_of_one w make bytes ≡ Some (c, rest) → IsTaken left (tag ∷ bytes) c rest
one_taken left tag w limit wide make spelled fits plain room bytes c rest are e = go (number_at w bytes) refl e
  where
    go : (found : Option (ℕ × List ℕ)) → number_at w bytes ≡ found → option_map {U = Constant × List ℕ} (λ n. (make n.0, n.1)) found ≡ Some (c, rest) → IsTaken left (tag ∷ bytes) c rest
    go None at e = cc
    go (Some (n, more)) at e =
        let t = number_takes w limit wide bytes n more are at in
        let taken : IsTaken left (tag ∷ bytes) (make n) more = record { takes = rw spelled (Takes-behind tag bytes (to_be_bytes w n) more t.0); fits = fits n t.1; plain = plain n; room = room n } in
        subst (λ (p : Constant × List ℕ). IsTaken left (tag ∷ bytes) p.0 p.1) (some_is (make n, more) (c, rest) e) taken

two_taken : (left tag : ℕ) (make : ℕ → ℕ → Constant)
    → ((m n : ℕ) → constant (make m n) ≡ tag ∷ to_be_bytes w16 m ++ to_be_bytes w16 n) → ((m n : ℕ) → m < 2 ^ 16 → n < 2 ^ 16 → IsConstant (make m n)) → ((m n : ℕ) → is_second (make m n) ≡ false)
    → ((m n : ℕ) → takes_two (make m n) ≡ true → 2 ≤ left)
    → (bytes : List ℕ) (c : Constant) (rest : List ℕ) → IsBytes bytes → constant_of_two make bytes ≡ Some (c, rest) → IsTaken left (tag ∷ bytes) c rest
two_taken left tag make spelled fits plain room bytes c rest are e = first (number_at w16 bytes) refl e
  where
    second : (m : ℕ) (after : List ℕ) → Takes bytes (to_be_bytes w16 m) after → m < 2 ^ 16 → (found : Option (ℕ × List ℕ)) → number_at w16 after ≡ found
        → option_map {U = Constant × List ℕ} (λ n. (make m n.0, n.1)) found ≡ Some (c, rest) → IsTaken left (tag ∷ bytes) c rest
    second m after t low None at e = cc
    second m after t low (Some (n, more)) at e =
        let u = number_takes w16 (2 ^ 16) wide16 after n more t.rest_fits at in
        let both = Takes-then bytes (to_be_bytes w16 m) after (to_be_bytes w16 n) more t u.0 in
        let taken : IsTaken left (tag ∷ bytes) (make m n) more = record { takes = rw spelled (Takes-behind tag bytes (to_be_bytes w16 m ++ to_be_bytes w16 n) more both); fits = fits m n low u.1; plain = plain m n; room = room m n } in
        subst (λ (p : Constant × List ℕ). IsTaken left (tag ∷ bytes) p.0 p.1) (some_is (make m n, more) (c, rest) e) taken

    first : (found : Option (ℕ × List ℕ)) → number_at w16 bytes ≡ found → option_and_then {U = Constant × List ℕ} (λ m. option_map {U = Constant × List ℕ} (λ n. (make m.0 n.0, n.1)) (number_at w16 m.1)) found ≡ Some (c, rest) → IsTaken left (tag ∷ bytes) c rest
    first None at e = cc
    first (Some (m, after)) at e =
        let t = number_takes w16 (2 ^ 16) wide16 bytes m after are at in
        second m after t.0 t.1 (number_at w16 after) refl e

handle_taken : (left : ℕ) (bytes : List ℕ) (c : Constant) (rest : List ℕ) → IsBytes bytes → method_handle_at bytes ≡ Some (c, rest) → IsTaken left (15 ∷ bytes) c rest
unfolding constant
handle_taken left [] c rest are e = cc
handle_taken left (kind ∷ bytes) c rest are e = go (number_at w16 bytes) refl e
  where
    go : (found : Option (ℕ × List ℕ)) → number_at w16 bytes ≡ found → option_map {U = Constant × List ℕ} (λ n. (Handle kind n.0, n.1)) found ≡ Some (c, rest) → IsTaken left (15 ∷ kind ∷ bytes) c rest
    go None at e = cc
    go (Some (n, more)) at e =
        let t = number_takes w16 (2 ^ 16) wide16 bytes n more (IsBytes-rest kind bytes are) at in
        let spelled : Takes (15 ∷ kind ∷ bytes) (constant (Handle kind n)) more = Takes-behind 15 (kind ∷ bytes) (kind ∷ to_be_bytes w16 n) more (Takes-behind kind bytes (to_be_bytes w16 n) more t.0) in
        let taken : IsTaken left (15 ∷ kind ∷ bytes) (Handle kind n) more = record { takes = spelled; fits = (are 0, t.1); plain = refl; room = λ two. cc } in
        subst (λ (p : Constant × List ℕ). IsTaken left (15 ∷ kind ∷ bytes) p.0 p.1) (some_is (Handle kind n, more) (c, rest) e) taken

-- what is left of the tags is that of a reference
reference_tag : (tag : ℕ) → is_tag tag ≡ true → eqb tag 1 ≡ false → eqb tag 3 ≡ false → eqb tag 4 ≡ false → eqb tag 5 ≡ false → eqb tag 6 ≡ false → eqb tag 7 ≡ false → eqb tag 8 ≡ false
    → eqb tag 12 ≡ false → eqb tag 15 ≡ false → eqb tag 16 ≡ false → eqb tag 18 ≡ false → (9 ≤ tag) × (tag ≤ 11)
reference_tag tag t f1 f3 f4 f5 f6 f7 f8 f12 f15 f16 f18 = grind (arith, nat_tests)

fixed_taken : (left tag : ℕ) (bytes : List ℕ) (c : Constant) (rest : List ℕ) → IsBytes bytes → is_tag tag ≡ true → eqb tag 1 ≡ false
    → (is_wide tag ≡ true → 2 ≤ left) → fixed_at tag bytes ≡ Some (c, rest) → IsTaken left (tag ∷ bytes) c rest
unfolding fixed_at constant
fixed_taken left tag bytes c rest are t f1 wide e =
    elim (cases_Bool (eqb tag 3)) [
      | inl y ↦ put 3 y (one_taken left 3 w32 (2 ^ 32) wide32 Integer (λ n. refl) (λ n l. l) (λ n. refl) (λ n two. absurd (let h : false ≡ true = two in cc)) bytes c rest are (rw y at e))
      | inr f3 ↦ elim (cases_Bool (eqb tag 4)) [
        | inl y ↦ put 4 y (one_taken left 4 w32 (2 ^ 32) wide32 Float (λ n. refl) (λ n l. l) (λ n. refl) (λ n two. absurd (let h : false ≡ true = two in cc)) bytes c rest are (rw (f3, y) at e))
        | inr f4 ↦ elim (cases_Bool (eqb tag 5)) [
          | inl y ↦ put 5 y (one_taken left 5 w64 (2 ^ 64) wide64 Long (λ n. refl) (λ n l. l) (λ n. refl) (λ n two. wide (or_left (eqb tag 5) (eqb tag 6) y)) bytes c rest are (rw (f3, f4, y) at e))
          | inr f5 ↦ elim (cases_Bool (eqb tag 6)) [
            | inl y ↦ put 6 y (one_taken left 6 w64 (2 ^ 64) wide64 Double (λ n. refl) (λ n l. l) (λ n. refl) (λ n two. wide (or_right (eqb tag 5) (eqb tag 6) y)) bytes c rest are (rw (f3, f4, f5, y) at e))
            | inr f6 ↦ elim (cases_Bool (eqb tag 7)) [
              | inl y ↦ put 7 y (one_taken left 7 w16 (2 ^ 16) wide16 Class (λ n. refl) (λ n l. l) (λ n. refl) (λ n two. absurd (let h : false ≡ true = two in cc)) bytes c rest are (rw (f3, f4, f5, f6, y) at e))
              | inr f7 ↦ elim (cases_Bool (eqb tag 8)) [
                | inl y ↦ put 8 y (one_taken left 8 w16 (2 ^ 16) wide16 Text (λ n. refl) (λ n l. l) (λ n. refl) (λ n two. absurd (let h : false ≡ true = two in cc)) bytes c rest are (rw (f3, f4, f5, f6, f7, y) at e))
                | inr f8 ↦ elim (cases_Bool (eqb tag 12)) [
                  | inl y ↦ put 12 y (two_taken left 12 NameType (λ m n. refl) (λ m n k l. (k, l)) (λ m n. refl) (λ m n two. absurd (let h : false ≡ true = two in cc)) bytes c rest are (rw (f3, f4, f5, f6, f7, f8, y) at e))
                  | inr f12 ↦ elim (cases_Bool (eqb tag 15)) [
                    | inl y ↦ put 15 y (handle_taken left bytes c rest are (rw (f3, f4, f5, f6, f7, f8, f12, y) at e))
                    | inr f15 ↦ elim (cases_Bool (eqb tag 16)) [
                      | inl y ↦ put 16 y (one_taken left 16 w16 (2 ^ 16) wide16 MethodType (λ n. refl) (λ n l. l) (λ n. refl) (λ n two. absurd (let h : false ≡ true = two in cc)) bytes c rest are (rw (f3, f4, f5, f6, f7, f8, f12, f15, y) at e))
                      | inr f16 ↦ elim (cases_Bool (eqb tag 18)) [
                        | inl y ↦ put 18 y (two_taken left 18 InvokeDynamic (λ m n. refl) (λ m n k l. (k, l)) (λ m n. refl) (λ m n two. absurd (let h : false ≡ true = two in cc)) bytes c rest are (rw (f3, f4, f5, f6, f7, f8, f12, f15, f16, y) at e))
                        | inr f18 ↦ (let ref = reference_tag tag t f1 f3 f4 f5 f6 f7 f8 f12 f15 f16 f18 in
                            two_taken left tag (Ref tag) (λ m n. refl) (λ m n k l. (ref.0, ref.1, k, l)) (λ m n. refl) (λ m n two. absurd (let h : false ≡ true = two in cc)) bytes c rest are (rw (f3, f4, f5, f6, f7, f8, f12, f15, f16, f18) at e))
                      ]
                    ]
                  ]
                ]
              ]
            ]
          ]
        ]
      ]
    ]
  where
    put : (k : ℕ) → eqb tag k ≡ true → IsTaken left (k ∷ bytes) c rest → IsTaken left (tag ∷ bytes) c rest
    put k y taken = subst (λ (n : ℕ). IsTaken left (n ∷ bytes) c rest) (sym (eqb-true tag k y)) taken

text_taken : (left at : ℕ) (bytes : List ℕ) (c : Constant) (rest : List ℕ) → IsBytes bytes → utf8_at at bytes ≡ Ok (c, rest) → IsTaken left (1 ∷ bytes) c rest
unfolding utf8_at constant
text_taken left at bytes c rest are e = go (number_at w16 bytes) refl e
  where
    whole : (len : ℕ) (after : List ℕ) → Takes bytes (to_be_bytes w16 len) after → len < 2 ^ 16 → len ≤ length after → is_text (take len after) ≡ true
        → IsTaken left (1 ∷ bytes) (Utf8 (take len after)) (drop len after)
    whole len after t low long is =
        let size : length (take len after) ≡ len = omega (arith, length-take len after) in
        let second : Takes after (take len after) (drop len after) = record { parts = sym (take-append-drop len after); rest_fits = IsBytes-drop len after t.rest_fits } in
        let both = Takes-then bytes (to_be_bytes w16 len) after (take len after) (drop len after) t second in
        let sized : Takes bytes (to_be_bytes w16 (length (take len after)) ++ take len after) (drop len after) = subst (λ (k : ℕ). Takes bytes (to_be_bytes w16 k ++ take len after) (drop len after)) (sym size) both in
        record {
          takes = Takes-behind 1 bytes (to_be_bytes w16 (length (take len after)) ++ take len after) (drop len after) sized;
          fits = (omega (arith, size, low), (is_text-grammar (take len after)).0 is);
          plain = refl;
          room = λ two. absurd (let h : false ≡ true = two in cc);
        }

    judged : (len : ℕ) (after : List ℕ) → Takes bytes (to_be_bytes w16 len) after → len < 2 ^ 16 → text_behind_length at (len, after) ≡ Ok (c, rest) → IsTaken left (1 ∷ bytes) c rest
    judged len after t low e = elim (cases_Bool (ltb (length after) len)) [
      | inl y ↦ absurd (let bad : Err (cut_short at) ≡ Ok (c, rest) = rw y at e in cc)
      | inr f ↦ elim (cases_Bool (is_text (take len after))) [
        | inl y ↦ (let taken = whole len after t low (ltb-false (length after) len f) y in
            subst (λ (p : Constant × List ℕ). IsTaken left (1 ∷ bytes) p.0 p.1) (ok_is (Utf8 (take len after), drop len after) (c, rest) (rw (f, y) at e)) taken)
        | inr g ↦ absurd (let bad : Err (bad_text at) ≡ Ok (c, rest) = rw (f, g) at e in cc)
      ]
    ]

    go : (found : Option (ℕ × List ℕ)) → number_at w16 bytes ≡ found → (or_cut at found >>= text_behind_length at) ≡ Ok (c, rest) → IsTaken left (1 ∷ bytes) c rest
    go None is e = absurd cc
    go (Some (len, after)) is e =
        let t = number_takes w16 (2 ^ 16) wide16 bytes len after are is in
        judged len after t.0 t.1 e

or_cut_ok : (at : ℕ) (found : Option (Constant × List ℕ)) (c : Constant) (rest : List ℕ) → or_cut at found ≡ Ok (c, rest) → found ≡ Some (c, rest)
or_cut_ok at None c rest e = absurd cc
or_cut_ok at (Some x) c rest e = ap (λ (q : Constant × List ℕ). Some q) (ok_is x (c, rest) e)

pub constant_taken : (end left : ℕ) (bytes : List ℕ) (c : Constant) (rest : List ℕ) → IsBytes bytes → constant_at_front end left bytes ≡ Ok (c, rest) → IsTaken left bytes c rest
unfolding constant_at_front
constant_taken end left [] c rest are e = absurd cc
constant_taken end left (tag ∷ bytes) c rest are e = elim (cases_Bool (is_tag tag)) [
  | inr f ↦ absurd (let bad : Err (bad_tag (place end (tag ∷ bytes)) tag) ≡ Ok (c, rest) = rw f at e in cc)
  | inl t ↦ elim (cases_Bool (is_wide tag && ltb left 2)) [
    | inl y ↦ absurd (let bad : Err (bad_tag (place end (tag ∷ bytes)) tag) ≡ Ok (c, rest) = rw (t, y) at e in cc)
    | inr g ↦ elim (cases_Bool (eqb tag 1)) [
      | inl y ↦ subst (λ (n : ℕ). IsTaken left (n ∷ bytes) c rest) (sym (eqb-true tag 1 y)) (text_taken left (place end (tag ∷ bytes)) bytes c rest (IsBytes-rest tag bytes are) (rw (t, g, y) at e))
      | inr f1 ↦ fixed_taken left tag bytes c rest (IsBytes-rest tag bytes are) t f1 (enough g) (or_cut_ok (place end (tag ∷ bytes)) (fixed_at tag bytes) c rest (rw (t, g, f1) at e))
    ]
  ]
]
  where
    enough : (is_wide tag && ltb left 2) ≡ false → is_wide tag ≡ true → 2 ≤ left
    enough g w = elim (and_cases (is_wide tag) (ltb left 2) g) [ inl f ↦ absurd (let bad : false ≡ true = sym f ∙ w in cc) | inr f ↦ ltb-false left 2 f ]

-- ---- and again

one_again : (at : ℕ) (w : Width) (limit : ℕ) (wide : IsWide w limit) (make : ℕ → Constant) (n : ℕ) (rest : List ℕ) → n < limit
    → or_cut at (constant_of_one w make (to_be_bytes w n ++ rest)) ≡ Ok (make n, rest)
one_again at w limit wide make n rest low = rw (number_again w limit wide n rest low) refl

two_again : (at : ℕ) (make : ℕ → ℕ → Constant) (m n : ℕ) (rest : List ℕ) → m < 2 ^ 16 → n < 2 ^ 16
    → or_cut at (constant_of_two make (to_be_bytes w16 m ++ (to_be_bytes w16 n ++ rest))) ≡ Ok (make m n, rest)
two_again at make m n rest low high =
    rw (number_again w16 (2 ^ 16) wide16 m (to_be_bytes w16 n ++ rest) low, number_again w16 (2 ^ 16) wide16 n rest high) refl

text_again : (at : ℕ) (text rest : List ℕ) → length text < 2 ^ 16 → is_text text ≡ true → utf8_at at (to_be_bytes w16 (length text) ++ (text ++ rest)) ≡ Ok (Utf8 text, rest)
unfolding utf8_at
text_again at text rest short is =
    let long : ltb (length (text ++ rest)) (length text) ≡ false = le-ltb _ _ (omega (arith, length-append text rest)) in
    rw (number_again w16 (2 ^ 16) wide16 (length text) (text ++ rest) short, long, take_at text rest (length text) refl, drop_at text rest (length text) refl, is) refl

wide_enough : (left : ℕ) → 2 ≤ left → ltb left 2 ≡ false
wide_enough left two = le-ltb left 2 two

pub constant_again : (end left : ℕ) (c : Constant) (rest : List ℕ) → IsConstant c → is_second c ≡ false → (takes_two c ≡ true → 2 ≤ left)
    → constant_at_front end left (constant c ++ rest) ≡ Ok (c, rest)
unfolding constant_at_front fixed_at constant
constant_again end left (Utf8 text) rest fits plain room =
    let is : is_text text ≡ true = (is_text-grammar text).1 fits.1 in
    let at = place end (1 ∷ to_be_bytes w16 (length text) ++ text ++ rest) in
    ap (utf8_at at) (append_assoc (to_be_bytes w16 (length text)) text rest) ∙ text_again at text rest fits.0 is
constant_again end left (Integer n) rest fits plain room = one_again (place end (constant (Integer n) ++ rest)) w32 (2 ^ 32) wide32 Integer n rest fits
constant_again end left (Float n) rest fits plain room = one_again (place end (constant (Float n) ++ rest)) w32 (2 ^ 32) wide32 Float n rest fits
constant_again end left (Long n) rest fits plain room = rw (wide_enough left (room refl)) (one_again (place end (constant (Long n) ++ rest)) w64 (2 ^ 64) wide64 Long n rest fits)
constant_again end left (Double n) rest fits plain room = rw (wide_enough left (room refl)) (one_again (place end (constant (Double n) ++ rest)) w64 (2 ^ 64) wide64 Double n rest fits)
constant_again end left (Class n) rest fits plain room = one_again (place end (constant (Class n) ++ rest)) w16 (2 ^ 16) wide16 Class n rest fits
constant_again end left (Text n) rest fits plain room = one_again (place end (constant (Text n) ++ rest)) w16 (2 ^ 16) wide16 Text n rest fits
constant_again end left (Ref tag m n) rest fits plain room = elim (reference tag fits.0 fits.1) [
  | inl e ↦ subst (λ (k : ℕ). constant_at_front end left (constant (Ref k m n) ++ rest) ≡ Ok (Ref k m n, rest)) (sym e) (two_again (place end (constant (Ref 9 m n) ++ rest)) (Ref 9) m n rest fits.2 fits.3)
  | inr other ↦ elim other [
    | inl e ↦ subst (λ (k : ℕ). constant_at_front end left (constant (Ref k m n) ++ rest) ≡ Ok (Ref k m n, rest)) (sym e) (two_again (place end (constant (Ref 10 m n) ++ rest)) (Ref 10) m n rest fits.2 fits.3)
    | inr e ↦ subst (λ (k : ℕ). constant_at_front end left (constant (Ref k m n) ++ rest) ≡ Ok (Ref k m n, rest)) (sym e) (two_again (place end (constant (Ref 11 m n) ++ rest)) (Ref 11) m n rest fits.2 fits.3)
  ]
]
  where
    reference : (k : ℕ) → 9 ≤ k → k ≤ 11 → (k ≡ 9) ⊎ ((k ≡ 10) ⊎ (k ≡ 11))
    reference k low high = elim (cases_Bool (eqb k 9)) [ inl y ↦ inl (eqb-true k 9 y) | inr f ↦ inr (elim (cases_Bool (eqb k 10)) [ inl y ↦ inl (eqb-true k 10 y) | inr g ↦ inr (last (eqb-false k 9 f) (eqb-false k 10 g)) ]) ]
      where
        last : (k ≡ 9 → ⊥) → (k ≡ 10 → ⊥) → k ≡ 11
        last f g = omega (arith, f, g)
constant_again end left (NameType m n) rest fits plain room = two_again (place end (constant (NameType m n) ++ rest)) NameType m n rest fits.0 fits.1
constant_again end left (Handle kind n) rest fits plain room = one_again (place end (constant (Handle kind n) ++ rest)) w16 (2 ^ 16) wide16 (Handle kind) n rest fits.1
constant_again end left (MethodType n) rest fits plain room = one_again (place end (constant (MethodType n) ++ rest)) w16 (2 ^ 16) wide16 MethodType n rest fits
constant_again end left (InvokeDynamic m n) rest fits plain room = two_again (place end (constant (InvokeDynamic m n) ++ rest)) InvokeDynamic m n rest fits.0 fits.1
constant_again end left Second rest fits plain room = absurd (let h : true ≡ false = plain in cc)
