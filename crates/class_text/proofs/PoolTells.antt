-- What the faults of a pool say of the file.
use Rattle.std.proofs.Common.{◌≡◌, ℕ, zero, suc, eqb, ltb, ◌-◌, ◌^◌, ◌<◌, ◌≤◌, Bool, true, false, cond, ◌&&◌, List, [], ◌∷◌, ◌++◌, length, take, drop, Option, Some, None, option_map, option_and_then, Ok, Err, refl, sym, ap, subst, ◌∙◌, append_assoc, append-nil, arith, inl, inr}
use Rattle.std.specs.Int.{Width, byte_len, from_be_bytes, w16, w32, w64, to_be_bytes}
use Rattle.std.proofs.lemmas.Bool.{cases_Bool, and_parts, eqb-true, ltb-true, ltb-false}
use Rattle.std.proofs.lemmas.List.{take-append-drop, length-append, length-take, length-drop}
use Rattle.class_model.specs.declared.constant_pool.Constant.{Constant}
use Rattle.class_model.specs.declared.constant_pool.Constant.TheVariants.{Utf8, Integer, Float, Long, Double, Class, Text, Ref, NameType, Handle, MethodType, InvokeDynamic, Second}
use Rattle.class_model.specs.declared.constant_pool.Pool.{Pool}
use Rattle.class_model.specs.Units.{is_text}
use Rattle.class_model.specs.Constants.{takes_two}
use Rattle.class_model.specs.Spelling.{constant}
use Rattle.class_model.proofs.TextLemmas.{is_text-grammar}
use Rattle.class_text.specs.Reading.{Fault, cut_short, bad_tag, bad_text, bad_index, ◌>>=◌, place, number_at, or_cut, IsBytes}
use Rattle.class_text.specs.Pool.{constant_of_one, constant_of_two, method_handle_at, fixed_at, is_tag, is_wide, text_behind_length, utf8_at, constant_at_front, constants_at, pool_of, unless_wrong, judged, wrong_at, pool_behind_count, pool_at}
use Rattle.class_text.specs.Meanings.{IsBadText, IsMeantInPool}
use Rattle.class_text.proofs.Numbers.{IsBytes-drop, IsBytes-rest, wide16, number_takes}
use Rattle.class_text.proofs.Places.{Failed, first, later, bind_err, err_is}
use Rattle.class_text.proofs.Readers.{bind}
use Rattle.class_text.proofs.PoolPlaces.{one_at, list_at}
use Rattle.class_text.proofs.PoolStops.{IsOne, one_reads}
use Rattle.class_text.proofs.Targets.{first_wrong}
use Rattle.class_text.proofs.Tells.{IsIn, is_in_behind, stands, Tells, give_tells, then_tells, made_tells, left_of}

-- ---- how few bytes are left where a constant is cut

number_short : (w : Width) (bytes : List ℕ) → number_at w bytes ≡ None → length bytes < byte_len w
number_short w bytes e = elim (cases_Bool (ltb (length bytes) (byte_len w))) [
  | inl y ↦ ltb-true (length bytes) (byte_len w) y
  | inr n ↦ absurd (let bad : Some (from_be_bytes w (take (byte_len w) bytes), drop (byte_len w) bytes) ≡ None = rw n at e in cc)
]

one_short : (w : Width) (make : ℕ → Constant) (bytes : List ℕ) → byte_len w < 9 → constant_of_one w make bytes ≡ None → length bytes < 9
one_short w make bytes few e = go (number_at w bytes) refl e
  where
    go : (found : Option (ℕ × List ℕ)) → number_at w bytes ≡ found → option_map {U = Constant × List ℕ} (λ n. (make n.0, n.1)) found ≡ None → length bytes < 9
    go None is e = omega (arith, number_short w bytes is, few)
    go (Some x) is e = absurd cc

two_short : (make : ℕ → ℕ → Constant) (bytes : List ℕ) → IsBytes bytes → constant_of_two make bytes ≡ None → length bytes < 9
two_short make bytes are e = go (number_at w16 bytes) refl e
  where
    behind : (m : ℕ) (after : List ℕ) → number_at w16 bytes ≡ Some (m, after) → (found : Option (ℕ × List ℕ)) → number_at w16 after ≡ found → option_map {U = Constant × List ℕ} (λ n. (make m n.0, n.1)) found ≡ None → length bytes < 9
    behind m after was None is e =
        let t = number_takes w16 (2 ^ 16) wide16 bytes m after are was in
        omega (arith, number_short w16 after is, ap length t.0.parts ∙ length-append (to_be_bytes w16 m) after)
    behind m after was (Some x) is e = absurd cc

    go : (found : Option (ℕ × List ℕ)) → number_at w16 bytes ≡ found → option_and_then {U = Constant × List ℕ} (λ m. option_map {U = Constant × List ℕ} (λ n. (make m.0 n.0, n.1)) (number_at w16 m.1)) found ≡ None → length bytes < 9
    go None is e = omega (arith, number_short w16 bytes is)
    go (Some x) is e = behind x.0 x.1 is (number_at w16 x.1) refl e

handle_short : (bytes : List ℕ) → method_handle_at bytes ≡ None → length bytes < 9
handle_short [] e = omega arith
handle_short (kind ∷ bytes) e = go (number_at w16 bytes) refl e
  where
    go : (found : Option (ℕ × List ℕ)) → number_at w16 bytes ≡ found → option_map {U = Constant × List ℕ} (λ n. (Handle kind n.0, n.1)) found ≡ None → length (kind ∷ bytes) < 9
    go None is e = omega (arith, number_short w16 bytes is)
    go (Some x) is e = absurd cc

either_short : (bytes : List ℕ) (b : Bool) (x y : Option (Constant × List ℕ)) → (x ≡ None → length bytes < 9) → (y ≡ None → length bytes < 9) → cond b x y ≡ None → length bytes < 9
either_short bytes true x y f g e = f e
either_short bytes false x y f g e = g e

fixed_short : (tag : ℕ) (bytes : List ℕ) → IsBytes bytes → fixed_at tag bytes ≡ None → length bytes < 9
unfolding fixed_at
fixed_short tag bytes are =
    either_short bytes (eqb tag 3) _ _ (one_short w32 Integer bytes (omega arith))
    (either_short bytes (eqb tag 4) _ _ (one_short w32 Float bytes (omega arith))
    (either_short bytes (eqb tag 5) _ _ (one_short w64 Long bytes (omega arith))
    (either_short bytes (eqb tag 6) _ _ (one_short w64 Double bytes (omega arith))
    (either_short bytes (eqb tag 7) _ _ (one_short w16 Class bytes (omega arith))
    (either_short bytes (eqb tag 8) _ _ (one_short w16 Text bytes (omega arith))
    (either_short bytes (eqb tag 12) _ _ (two_short NameType bytes are)
    (either_short bytes (eqb tag 15) _ _ (handle_short bytes)
    (either_short bytes (eqb tag 16) _ _ (one_short w16 MethodType bytes (omega arith))
    (either_short bytes (eqb tag 18) _ _ (two_short InvokeDynamic bytes are) (two_short (Ref tag) bytes are))))))))))

-- ---- constants

abbrev is_index : Fault → Bool
is_index (bad_index at) = true
is_index _ = false

module _ (file : List ℕ) (start : ℕ) where
  abbrev Meant : ℕ → Fault → Type 0
  Meant = IsMeantInPool file start

  cut_here : (end : ℕ) (bytes : List ℕ) (f : Fault) → IsIn file start end bytes → length bytes < 2 ^ 32 → cut_short (place end bytes) ≡ f → Meant end f
  cut_here end bytes f i few same = subst (Meant end) same (omega (arith, i.ends, few))

  text_tells : (end : ℕ) (bytes : List ℕ) (f : Fault) → IsIn file start end (1 ∷ bytes) → IsBytes bytes → utf8_at (place end (1 ∷ bytes)) bytes ≡ Err f → Meant end f
  unfolding utf8_at
  text_tells end bytes f i are e = go (number_at w16 bytes) refl e
    where
      at : ℕ
      at = place end (1 ∷ bytes)

      -- the text is whole
      whole : (n : ℕ) (after : List ℕ) → bytes ≡ to_be_bytes w16 n ++ after → n ≤ length after → is_text (take n after) ≡ false → IsBadText file start at
      whole n after parts long isnt =
          let size : length (take n after) ≡ n = omega (arith, length-take n after, long) in
          let split : bytes ≡ (to_be_bytes w16 (length (take n after)) ++ take n after) ++ drop n after =
          parts ∙ ap (λ (l : List ℕ). to_be_bytes w16 n ++ l) (sym (take-append-drop n after)) ∙ sym (append_assoc (to_be_bytes w16 n) (take n after) (drop n after)) ∙ ap (λ (k : ℕ). (to_be_bytes w16 k ++ take n after) ++ drop n after) (sym size) in
          record {
            text = take n after;
            stands = stands file start end (1 ∷ bytes) (1 ∷ to_be_bytes w16 (length (take n after)) ++ take n after) (drop n after) i (ap (λ (l : List ℕ). 1 ∷ l) split);
            behind = omega (arith, i.ends, i.low);
            bad = λ good. let yes = (is_text-grammar (take n after)).1 good in let h : true ≡ false = sym yes ∙ isnt in cc;
          }

      judged_text : (n : ℕ) (after : List ℕ) → bytes ≡ to_be_bytes w16 n ++ after → n < 2 ^ 16 → text_behind_length at (n, after) ≡ Err f → Meant end f
      judged_text n after parts low e = elim (cases_Bool (ltb (length after) n)) [
        | inl y ↦ cut_here end (1 ∷ bytes) f i (omega (arith, ltb-true (length after) n y, low, ap length parts ∙ length-append (to_be_bytes w16 n) after)) (err_is {A = Constant × List ℕ} (cut_short at) f (rw y at e))
        | inr g ↦ elim (cases_Bool (is_text (take n after))) [
          | inl y ↦ absurd (let bad : Ok (Utf8 (take n after), drop n after) ≡ Err f = rw (g, y) at e in cc)
          | inr isnt ↦ subst (Meant end) (err_is {A = Constant × List ℕ} (bad_text at) f (rw (g, isnt) at e)) (whole n after parts (ltb-false (length after) n g) isnt)
        ]
      ]

      go : (found : Option (ℕ × List ℕ)) → number_at w16 bytes ≡ found → (or_cut at found >>= text_behind_length at) ≡ Err f → Meant end f
      go None is e = cut_here end (1 ∷ bytes) f i (omega (arith, number_short w16 bytes is)) (err_is {A = Constant × List ℕ} (cut_short at) f e)
      go (Some x) is e = let t = number_takes w16 (2 ^ 16) wide16 bytes x.0 x.1 are is in judged_text x.0 x.1 t.0.parts t.1 e

  one_tells : (left : ℕ) → Tells file start Meant (one_at left)
  unfolding constant_at_front
  one_tells left = record { faults = fault; rest = left_of file start Meant (one_at left) (IsOne left) constant (one_reads left) }
    where
      fixed : (end : ℕ) (tag : ℕ) (bytes : List ℕ) (f : Fault) → IsIn file start end (tag ∷ bytes) → (found : Option (Constant × List ℕ)) → fixed_at tag bytes ≡ found → or_cut (place end (tag ∷ bytes)) found ≡ Err f → Meant end f
      fixed end tag bytes f i None is e = cut_here end (tag ∷ bytes) f i (omega (arith, fixed_short tag bytes (IsBytes-rest tag bytes i.fits) is)) (err_is {A = Constant × List ℕ} (cut_short (place end (tag ∷ bytes))) f e)
      fixed end tag bytes f i (Some x) is e = absurd cc

      fault : (end : ℕ) (bytes : List ℕ) (f : Fault) → IsIn file start end bytes → constant_at_front end left bytes ≡ Err f → Meant end f
      fault end [] f i e = cut_here end [] f i (omega arith) (err_is {A = Constant × List ℕ} (cut_short (place end [])) f e)
      fault end (tag ∷ bytes) f i e =
          let at = place end (tag ∷ bytes) in
          let stood = stands file start end (tag ∷ bytes) (tag ∷ []) bytes i refl in
          let low : start ≤ at = omega (arith, i.ends, i.low) in
          elim (cases_Bool (is_tag tag)) [
            | inr g ↦ subst (Meant end) (err_is {A = Constant × List ℕ} (bad_tag at tag) f (rw g at e)) (stood, low, inl g)
            | inl t ↦ elim (cases_Bool (is_wide tag && ltb left 2)) [
              | inl y ↦ subst (Meant end) (err_is {A = Constant × List ℕ} (bad_tag at tag) f (rw (t, y) at e)) (stood, low, inr (and_parts (is_wide tag) (ltb left 2) y).0)
              | inr g ↦ elim (cases_Bool (eqb tag 1)) [
                | inl y ↦ text tag bytes (eqb-true tag 1 y) i (rw (t, g, y) at e)
                | inr h ↦ fixed end tag bytes f i (fixed_at tag bytes) refl (rw (t, g, h) at e)
              ]
            ]
          ]
        where
          text : (tag : ℕ) (bytes : List ℕ) → tag ≡ 1 → IsIn file start end (tag ∷ bytes) → utf8_at (place end (tag ∷ bytes)) bytes ≡ Err f → Meant end f
          text tag bytes one i e = text_tells end bytes f (subst (λ (n : ℕ). IsIn file start end (n ∷ bytes)) one i) (IsBytes-rest tag bytes i.fits) e

  list_tells : (numbers : ℕ) (due : Bool) → Tells file start Meant (list_at due numbers)
  unfolding constants_at
  list_tells zero due = give_tells file start Meant []
  list_tells (suc numbers) true = made_tells file start Meant (list_at false numbers) (λ (cs : List Constant). Second ∷ cs) (list_tells numbers false)
  list_tells (suc numbers) false =
      then_tells file start Meant (one_at (suc numbers)) (λ c. bind (list_at (takes_two c) numbers) (λ cs end bytes. Ok (c ∷ cs, bytes))) (one_tells (suc numbers))
      (λ c. made_tells file start Meant (list_at (takes_two c) numbers) (λ (cs : List Constant). c ∷ cs) (list_tells numbers (takes_two c)))

-- ---- a pool

-- what stands in a file from a place on
pub behind_in : (file : List ℕ) (start : ℕ) → IsBytes file → start ≤ length file → IsIn file start (length file) (drop start file)
behind_in file start are within = record {
  front = take start file;
  back = [];
  parts = sym (take-append-drop start file) ∙ ap (λ (l : List ℕ). take start file ++ l) (sym (append-nil (drop start file)));
  ends = omega (arith, length-take start file, length-drop start file, within);
  low = omega (arith, length-take start file, within);
  fits = IsBytes-drop start file are;
}

pub pool_meant : (file : List ℕ) (start : ℕ) (f : Fault) → IsBytes file → start ≤ length file → pool_at (length file) (drop start file) ≡ Err f → IsMeantInPool file start (length file) f
unfolding pool_at
pool_meant file start (bad_index at) are within e = first_wrong (length file) (drop start file) at (IsBytes-drop start file are) (omega (arith, length-drop start file)) e
pool_meant file start f are within e = plain f refl e
  where
    end : ℕ
    end = length file

    bytes : List ℕ
    bytes = drop start file

    i : IsIn file start end bytes
    i = behind_in file start are within

    never : {P : Type 0} (p : ℕ) (f : Fault) → is_index f ≡ false → bad_index p ≡ f → P
    never p f isnt same = absurd (let h : true ≡ false = ap is_index same ∙ isnt in cc)

    -- the constants are read, so that the fault would be a wrong index
    wrong : (cs : List Constant) (after : List ℕ) (f : Fault) → is_index f ≡ false → (found : Option ℕ) → unless_wrong (cs, after) found ≡ Err f → IsMeantInPool file start end f
    wrong cs after f isnt None e = absurd cc
    wrong cs after f isnt (Some p) e = never p f isnt (err_is {A = Pool × List ℕ} (bad_index p) f e)

    behind : (count : ℕ) (rest : List ℕ) (f : Fault) → is_index f ≡ false → IsIn file start end rest → Failed (constants_at end false (count - 1) rest) (judged (place end rest)) f → IsMeantInPool file start end f
    behind count rest f isnt there (first is) = (list_tells file start (count - 1) false).faults end rest f there is
    behind count rest f isnt there (later x is is') = wrong x.0 x.1 f isnt (wrong_at (pool_of x.0) (place end rest) x.0) is'

    counted : (count : ℕ) (rest : List ℕ) (f : Fault) → is_index f ≡ false → IsIn file start end rest → pool_behind_count end (place end bytes) (count, rest) ≡ Err f → IsMeantInPool file start end f
    counted count rest f isnt there e = elim (cases_Bool (eqb count 0)) [
      | inl y ↦ never (place end bytes) f isnt (err_is {A = Pool × List ℕ} (bad_index (place end bytes)) f (rw y at e))
      | inr g ↦ behind count rest f isnt there (bind_err (constants_at end false (count - 1) rest) (judged (place end rest)) f (rw g at e))
    ]

    go : (f : Fault) → is_index f ≡ false → (found : Option (ℕ × List ℕ)) → number_at w16 bytes ≡ found → (or_cut (place end bytes) found >>= pool_behind_count end (place end bytes)) ≡ Err f → IsMeantInPool file start end f
    go f isnt None is e = cut_here file start end bytes f i (omega (arith, number_short w16 bytes is)) (err_is {A = Pool × List ℕ} (cut_short (place end bytes)) f e)
    go f isnt (Some x) is e =
        let t = number_takes w16 (2 ^ 16) wide16 bytes x.0 x.1 i.fits is in
        counted x.0 x.1 f isnt (is_in_behind file start end bytes (to_be_bytes w16 x.0) x.1 i t.0.parts t.0.rest_fits) e

    plain : (f : Fault) → is_index f ≡ false → pool_at end bytes ≡ Err f → IsMeantInPool file start end f
    plain f isnt e = go f isnt (number_at w16 bytes) refl e
