-- What holds of the readers of numbers, indices, lists and runs.
use Rattle.std.proofs.Common.{◌≡◌, ℕ, zero, suc, eqb, ltb, ◌+◌, ◌^◌, ◌<◌, ◌≤◌, Bool, true, false, cond, List, [], ◌∷◌, ◌++◌, length, take, drop, map, flat_map, Option, Some, None, Ok, Err, refl, sym, ap, subst, ◌∙◌, append_assoc, append-nil, arith, inl, inr}
use Rattle.std.specs.List.{AllByRecursion}
use Rattle.std.specs.Int.{Width, w16, w32, to_be_bytes}
use Rattle.std.proofs.lemmas.Bool.{cases_Bool, eqb-true, ltb-false, le-ltb}
use Rattle.std.proofs.lemmas.List.{take_at, drop_at, take-append-drop, length-append, length-take}
use Rattle.class_model.specs.Annotations.{IsCounted}
use Rattle.class_model.specs.Spelling.{counted}
use Rattle.class_text.specs.Reading.{Fault, cut_short, astray, bad_attribute, goes_on, is_cut, Reading, ◌>>=◌, place, number_at, or_cut, IsBytes}
use Rattle.class_text.specs.Readers.{Reader, u1_at, u2_at, u4_at, index_at, many_after, counted_at, counted_after, run_at, whole, within}
use Rattle.class_text.proofs.Numbers.{IsBytes-drop, IsBytes-take, IsBytes-rest, bind_ok, ok_is, Takes, Takes-then, IsWide, wide16, wide32, number_takes, number_again}
use Rattle.class_text.proofs.Places.{Failed, first, later, bind_err, err_is}
use Rattle.class_text.proofs.Readers.{Reads, ReadsAll, as_reads, reads_on, give_reads, bind, bind_reads, unless_reads, here_reads, place_on}

-- a number of a width
abbrev pub wide_at : Width → Reader ℕ
wide_at w end bytes = or_cut (place end bytes) (number_at w bytes)

wide_reads : (w : Width) (limit : ℕ) → IsWide w limit → Reads (wide_at w) (λ n. n < limit) (to_be_bytes w)
wide_reads w limit wide = record {
  takes = λ end bytes n rest are e. taken end bytes n rest are (number_at w bytes) refl e;
  again = λ end n rest low. ap (or_cut (place end (to_be_bytes w n ++ rest))) (number_again w limit wide n rest low);
  stays = λ end bytes more f are plain e. never bytes (place end bytes) f plain (number_at w bytes) e;
}
  where
    taken : (end : ℕ) (bytes : List ℕ) (n : ℕ) (rest : List ℕ) → IsBytes bytes → (found : Option (ℕ × List ℕ)) → number_at w bytes ≡ found → or_cut (place end bytes) found ≡ Ok (n, rest) → (n < limit) × Takes bytes (to_be_bytes w n) rest
    taken end bytes n rest are None is e = absurd cc
    taken end bytes n rest are (Some x) is e =
        let same = ok_is x (n, rest) e in
        let t = number_takes w limit wide bytes n rest are (is ∙ ap (λ (q : ℕ × List ℕ). Some q) same) in (t.1, t.0)

    never : {P : Type 0} (bytes : List ℕ) (at : ℕ) (f : Fault) → is_cut f ≡ false → (found : Option (ℕ × List ℕ)) → or_cut at found ≡ Err f → P
    never bytes at f plain None e = absurd (let h : true ≡ false = ap is_cut (err_is (cut_short at) f e) ∙ plain in cc)
    never bytes at f plain (Some x) e = absurd cc

pub u2_reads : Reads u2_at (λ n. n < 2 ^ 16) (to_be_bytes w16)
unfolding u2_at
u2_reads = wide_reads w16 (2 ^ 16) wide16

pub u4_reads : Reads u4_at (λ n. n < 2 ^ 32) (to_be_bytes w32)
unfolding u4_at
u4_reads = wide_reads w32 (2 ^ 32) wide32

pub u1_reads : Reads u1_at (λ n. n < 2 ^ 8) (λ n. n ∷ [])
unfolding u1_at
u1_reads = record {
  takes = λ end bytes n rest are e. taken end bytes n rest are e;
  again = λ end n rest low. refl;
  stays = λ end bytes more f are plain e. never end bytes more f plain e;
}
  where
    taken : (end : ℕ) (bytes : List ℕ) (n : ℕ) (rest : List ℕ) → IsBytes bytes → u1_at end bytes ≡ Ok (n, rest) → (n < 2 ^ 8) × Takes bytes (n ∷ []) rest
    taken end [] n rest are e = absurd cc
    taken end (b ∷ bytes) n rest are e =
        let same = ok_is (b, bytes) (n, rest) e in
        subst (λ (p : ℕ × List ℕ). (p.0 < 2 ^ 8) × Takes (b ∷ bytes) (p.0 ∷ []) p.1) same (are 0, record { parts = refl; rest_fits = IsBytes-rest b bytes are })

    never : (end : ℕ) (bytes more : List ℕ) (f : Fault) → is_cut f ≡ false → u1_at end bytes ≡ Err f → u1_at (end + length more) (bytes ++ more) ≡ Err f
    never end [] more f plain e = absurd (let h : true ≡ false = ap is_cut (err_is (cut_short (place end [])) f e) ∙ plain in cc)
    never end (b ∷ bytes) more f plain e = absurd cc

pub index_reads : (leads : ℕ → Bool) → ((n : ℕ) → leads n ≡ true → n < 2 ^ 16) → Reads (index_at leads) (λ n. leads n ≡ true) (to_be_bytes w16)
unfolding index_at
index_reads leads low =
    here_reads (λ at. bind u2_at (λ n end bytes. cond (leads n) (Ok (n, bytes)) (Err (astray at leads)))) (λ n. leads n ≡ true) (to_be_bytes w16) (λ at.
    as_reads (bind u2_at (λ n end bytes. cond (leads n) (Ok (n, bytes)) (Err (astray at leads)))) _ _ (λ n. leads n ≡ true) (to_be_bytes w16)
    (bind_reads u2_at (λ n. n < 2 ^ 16) (to_be_bytes w16) (λ n end bytes. cond (leads n) (Ok (n, bytes)) (Err (astray at leads))) (λ n m. (leads n ≡ true) × (m ≡ n)) (λ n m. []) (λ m. m)
    u2_reads (λ n p. unless_reads (leads n) (astray at leads) (λ end bytes. Ok (n, bytes)) (λ m. m ≡ n) (λ m. []) (λ y. give_reads n)) (λ n m q. q.1))
    (λ n p. p.1.0) (λ n p. (low n p, (p, refl))) (λ n p. append-nil (to_be_bytes w16 n)))

-- Each item has a shape beside those before it.
abbrev pub AllAfter : {A : Type 0} → (List A → A → Type 0) → List A → List A → Type 0
AllAfter P before [] = Unit {0}
AllAfter P before (x ∷ xs) = P before x × AllAfter P (before ++ x ∷ []) xs

pub all_each : {A : Type 0} (P : A → Type 0) (before xs : List A) → AllAfter (λ earlier. P) before xs → AllByRecursion P xs
all_each P before [] all = tt
all_each P before (x ∷ xs) all = (all.0, all_each P (before ++ x ∷ []) xs all.1)

pub all_after : {A : Type 0} (P : A → Type 0) (before xs : List A) → AllByRecursion P xs → AllAfter (λ earlier. P) before xs
all_after P before [] all = tt
all_after P before (x ∷ xs) all = (all.0, all_after P (before ++ x ∷ []) xs all.1)

-- so many items that have a shape beside those before them
abbrev AreAfter : {A : Type 0} → (List A → A → Type 0) → List A → ℕ → List A → Type 0
AreAfter P before n xs = (length xs ≡ n) × AllAfter P before xs

abbrev with_item : {A : Type 0} → A → List A × List ℕ → Reading (List A)
with_item x others = Ok (x ∷ others.0, others.1)

pub many_reads : {A : Type 0} (one : List A → Reader A) (P : List A → A → Type 0) (s : A → List ℕ) → ((before : List A) → Reads (one before) (P before) s)
    → (n : ℕ) (before : List A) → Reads (many_after one before n) (λ xs. (length xs ≡ n) × AllAfter P before xs) (flat_map s)
unfolding many_after
many_reads {A = A} one P s r n before = record { takes = taken n before; again = λ end xs rest are. again_all n before end xs rest are.0 are.1; stays = stays_all n before }
  where
    taken : (n : ℕ) (before : List A) (end : ℕ) (bytes : List ℕ) (xs : List A) (rest : List ℕ) → IsBytes bytes → many_after one before n end bytes ≡ Ok (xs, rest) → AreAfter P before n xs × Takes bytes (flat_map s xs) rest
    taken zero before end bytes xs rest are e =
        subst (λ (p : List A × List ℕ). AreAfter P before 0 p.0 × Takes bytes (flat_map s p.0) p.1) (ok_is ([], bytes) (xs, rest) e) ((refl, tt), record { parts = refl; rest_fits = are })
    taken (suc n) before end bytes xs rest are e =
        let a = bind_ok (one before end bytes) (λ x. many_after one (before ++ x.0 ∷ []) n end x.1 >>= with_item x.0) (xs, rest) e in
        let b = bind_ok (many_after one (before ++ a.0.0 ∷ []) n end a.0.1) (with_item a.0.0) (xs, rest) a.2 in
        let t = (r before).takes end bytes a.0.0 a.0.1 are a.1 in
        let u = taken n (before ++ a.0.0 ∷ []) end a.0.1 b.0.0 b.0.1 t.1.rest_fits b.1 in
        subst (λ (p : List A × List ℕ). AreAfter P before (suc n) p.0 × Takes bytes (flat_map s p.0) p.1) (ok_is (a.0.0 ∷ b.0.0, b.0.1) (xs, rest) b.2)
        ((ap suc u.0.0, (t.0, u.0.1)), Takes-then bytes (s a.0.0) a.0.1 (flat_map s b.0.0) b.0.1 t.1 u.1)

    again_all : (n : ℕ) (before : List A) (end : ℕ) (xs : List A) (rest : List ℕ) → length xs ≡ n → AllAfter P before xs → many_after one before n end (flat_map s xs ++ rest) ≡ Ok (xs, rest)
    again_all zero before end [] rest size all = refl
    again_all zero before end (x ∷ xs) rest size all = absurd cc
    again_all (suc n) before end [] rest size all = absurd cc
    again_all (suc n) before end (x ∷ xs) rest size all =
        let less : length xs ≡ n = cc in
        let behind = flat_map s xs ++ rest in
        let first = (r before).again end x behind all.0 in
        let others = again_all n (before ++ x ∷ []) end xs rest less all.1 in
        ap (λ (l : List ℕ). one before end l >>= (λ y. many_after one (before ++ y.0 ∷ []) n end y.1 >>= with_item y.0)) (append_assoc (s x) (flat_map s xs) rest)
        ∙ ap (λ (found : Reading A). found >>= (λ y. many_after one (before ++ y.0 ∷ []) n end y.1 >>= with_item y.0)) first
        ∙ ap (λ (found : Reading (List A)). found >>= with_item x) others

    stays_all : (n : ℕ) (before : List A) (end : ℕ) (bytes more : List ℕ) (f : Fault) → IsBytes bytes → is_cut f ≡ false → many_after one before n end bytes ≡ Err f
        → many_after one before n (end + length more) (bytes ++ more) ≡ Err f
    stays_all zero before end bytes more f are plain e = absurd cc
    stays_all (suc n) before end bytes more f are plain e = go (bind_err (one before end bytes) (λ x. many_after one (before ++ x.0 ∷ []) n end x.1 >>= with_item x.0) f e) (λ x after fits. stays_all n (before ++ x ∷ []) end after more f fits plain)
      where
        step : Reading A → Reading (List A)
        step found = found >>= (λ x. many_after one (before ++ x.0 ∷ []) n (end + length more) x.1 >>= with_item x.0)

        inner : (x : A) (after : List ℕ) → (many_after one (before ++ x ∷ []) n end after ≡ Err f → many_after one (before ++ x ∷ []) n (end + length more) (after ++ more) ≡ Err f)
            → Failed (many_after one (before ++ x ∷ []) n end after) (with_item x) f → (many_after one (before ++ x ∷ []) n (end + length more) (after ++ more) >>= with_item x) ≡ Err f
        inner x after on (first is) = ap (λ (found : Reading (List A)). found >>= with_item x) (on is)
        inner x after on (later others is is') = absurd cc

        go : Failed (one before end bytes) (λ x. many_after one (before ++ x.0 ∷ []) n end x.1 >>= with_item x.0) f
            → ((x : A) (after : List ℕ) → IsBytes after → many_after one (before ++ x ∷ []) n end after ≡ Err f → many_after one (before ++ x ∷ []) n (end + length more) (after ++ more) ≡ Err f)
            → step (one before (end + length more) (bytes ++ more)) ≡ Err f
        go (first is) on = ap step ((r before).stays end bytes more f are plain is)
        go (later x is is') on =
            let t = (r before).takes end bytes x.0 x.1 are is in
            ap step (reads_on (one before) (P before) s (r before) end bytes more x.0 x.1 are is)
            ∙ inner x.0 x.1 (on x.0 x.1 t.1.rest_fits) (bind_err (many_after one (before ++ x.0 ∷ []) n end x.1) (with_item x.0) f is')

pub counted_reads : {A : Type 0} (one : List A → Reader A) (P : List A → A → Type 0) (s : A → List ℕ) → ((before : List A) → Reads (one before) (P before) s)
    → Reads (counted_after one) (λ xs. (length xs < 2 ^ 16) × AllAfter P [] xs) (λ xs. to_be_bytes w16 (length xs) ++ flat_map s xs)
unfolding counted_after
counted_reads one P s r =
    as_reads (counted_after one) _ _ (λ xs. (length xs < 2 ^ 16) × AllAfter P [] xs) (λ xs. to_be_bytes w16 (length xs) ++ flat_map s xs)
    (bind_reads u2_at (λ n. n < 2 ^ 16) (to_be_bytes w16) (many_after one []) (λ n xs. (length xs ≡ n) × AllAfter P [] xs) (λ n. flat_map s) length
    u2_reads (λ n low. many_reads one P s r n []) (λ n xs q. q.0))
    (λ xs p. (p.0, p.1.1)) (λ xs p. (p.0, (refl, p.1))) (λ xs p. refl)

-- items that are read one by one, behind their count
pub each_counted : {A : Type 0} (one : Reader A) (P : A → Type 0) (s : A → List ℕ) → Reads one P s → Reads (counted_at one) (IsCounted P) (counted s)
each_counted one P s r =
    as_reads (counted_at one) (λ xs. (length xs < 2 ^ 16) × AllAfter (λ before. P) [] xs) (counted s) (IsCounted P) (counted s) (counted_reads (λ before. one) (λ before. P) s (λ before. r))
    (λ xs p. (p.0, all_each P [] xs p.1)) (λ xs p. (p.0, all_after P [] xs p.1)) (λ xs p. refl)

-- ---- runs

pub run_again : (len end : ℕ) (run rest : List ℕ) → length run ≡ len → run_at len end (run ++ rest) ≡ Ok (run, rest)
unfolding run_at
run_again len end run rest size =
    let long : ltb (length (run ++ rest)) len ≡ false = le-ltb _ _ (omega (arith, length-append run rest)) in
    rw (long, take_at run rest len size, drop_at run rest len size) refl

pub run_reads : (len : ℕ) → Reads (run_at len) (λ bytes. (length bytes ≡ len) × IsBytes bytes) (λ bytes. bytes)
unfolding run_at
run_reads len = record {
  takes = λ end bytes run rest are e. taken end bytes run rest are e;
  again = λ end run rest p. run_again len end run rest p.0;
  stays = λ end bytes more f are plain e. never end bytes more f plain e;
}
  where
    taken : (end : ℕ) (bytes run rest : List ℕ) → IsBytes bytes → run_at len end bytes ≡ Ok (run, rest) → ((length run ≡ len) × IsBytes run) × Takes bytes run rest
    taken end bytes run rest are e = elim (cases_Bool (ltb (length bytes) len)) [
      | inl y ↦ absurd (let bad : Err (cut_short (place end bytes)) ≡ Ok (run, rest) = rw y at e in cc)
      | inr g ↦ (let long : len ≤ length bytes = ltb-false (length bytes) len g in
          let same = ok_is (take len bytes, drop len bytes) (run, rest) (rw g at e) in
          subst (λ (p : List ℕ × List ℕ). ((length p.0 ≡ len) × IsBytes p.0) × Takes bytes p.0 p.1) same
          ((omega (arith, length-take len bytes), IsBytes-take len bytes are), record { parts = sym (take-append-drop len bytes); rest_fits = IsBytes-drop len bytes are }))
    ]

    never : (end : ℕ) (bytes more : List ℕ) (f : Fault) → is_cut f ≡ false → run_at len end bytes ≡ Err f → run_at len (end + length more) (bytes ++ more) ≡ Err f
    never end bytes more f plain e = elim (cases_Bool (ltb (length bytes) len)) [
      | inl y ↦ absurd (let bad : Err (cut_short (place end bytes)) ≡ Err f = rw y at e in let h : true ≡ false = ap is_cut (err_is (cut_short (place end bytes)) f bad) ∙ plain in cc)
      | inr g ↦ absurd (let bad : Ok (take len bytes, drop len bytes) ≡ Err f = rw g at e in cc)
    ]

no_bytes : (bytes : List ℕ) → eqb (length bytes) 0 ≡ true → bytes ≡ []
no_bytes [] e = refl
no_bytes (b ∷ bytes) e = absurd (omega (arith, eqb-true (suc (length bytes)) 0 e))

-- what was read of a run was all of it
whole_ok : {A : Type 0} (at stop : ℕ) (rest : List ℕ) (found : Reading A) (x : A) (after : List ℕ) → whole at stop rest found ≡ Ok (x, after) → (found ≡ Ok (x, [])) × (after ≡ rest)
unfolding whole
whole_ok {A = A} at stop rest (Ok (y, left)) x after e = elim (cases_Bool (eqb (length left) 0)) [
  | inl z ↦ (let same = ok_is (y, rest) (x, after) (rw z at e) in
      let one : y ≡ x = ap (λ (p : A × List ℕ). p.0) same in
      let none : left ≡ [] = no_bytes left z in
      (rw (one, none) refl, sym (ap (λ (p : A × List ℕ). p.1) same)))
  | inr g ↦ absurd (let bad : Err (bad_attribute at (goes_on (place stop left) stop)) ≡ Ok (x, after) = rw g at e in cc)
]
whole_ok at stop rest (Err f) x after e = absurd cc

pub within_reads : {A : Type 0} (at len : ℕ) (inner : Reader A) (P : A → Type 0) (s : A → List ℕ) → ReadsAll inner P s
    → Reads (within at len inner) (λ x. P x × (length (s x) ≡ len)) s
unfolding within whole
within_reads {A = A} at len inner P s r = record { takes = taken; again = again_in; stays = stays_in }
  where
    behind : (end : ℕ) → List ℕ × List ℕ → Reading A
    behind end run = whole at (place end run.1) run.1 (inner (place end run.1) run.0)

    taken : (end : ℕ) (bytes : List ℕ) (x : A) (rest : List ℕ) → IsBytes bytes → within at len inner end bytes ≡ Ok (x, rest) → (P x × (length (s x) ≡ len)) × Takes bytes (s x) rest
    taken end bytes x rest are e =
        let run = bind_ok (run_at len end bytes) (λ run. whole at (place end run.1) run.1 (inner (place end run.1) run.0)) (x, rest) e in
        let t = (run_reads len).takes end bytes run.0.0 run.0.1 are run.1 in
        let w = whole_ok at (place end run.0.1) run.0.1 (inner (place end run.0.1) run.0.0) x rest run.2 in
        let u = r.takes (place end run.0.1) run.0.0 x t.0.1 w.0 in
        let size : length (s x) ≡ len = ap length (sym u.1) ∙ t.0.0 in
        ((u.0, size), subst (λ (l : List ℕ). Takes bytes (s x) l) (sym w.1) (subst (λ (l : List ℕ). Takes bytes l run.0.1) u.1 t.1))

    again_in : (end : ℕ) (x : A) (rest : List ℕ) → P x × (length (s x) ≡ len) → within at len inner end (s x ++ rest) ≡ Ok (x, rest)
    again_in end x rest p =
        ap (λ (found : Reading (List ℕ)). found >>= behind end) (run_again len end (s x) rest p.1)
        ∙ ap (whole at (place end rest) rest) (r.again (place end rest) x p.0)

    stays_in : (end : ℕ) (bytes more : List ℕ) (f : Fault) → IsBytes bytes → is_cut f ≡ false → within at len inner end bytes ≡ Err f → within at len inner (end + length more) (bytes ++ more) ≡ Err f
    stays_in end bytes more f are plain e = go (bind_err (run_at len end bytes) (behind end) f e)
      where
        more_whole : (stop : ℕ) (found : Reading A) (rest after : List ℕ) → whole at stop rest found ≡ Err f → whole at stop after found ≡ Err f
        more_whole stop (Ok x) rest after e = elim (cases_Bool (eqb (length x.1) 0)) [
          | inl y ↦ absurd (let bad : Ok (x.0, rest) ≡ Err f = rw y at e in cc)
          | inr g ↦ rw g (rw g at e)
        ]
        more_whole stop (Err g) rest after e = e

        go : Failed (run_at len end bytes) (behind end) f → within at len inner (end + length more) (bytes ++ more) ≡ Err f
        go (first is) = ap (λ (found : Reading (List ℕ)). found >>= behind (end + length more)) ((run_reads len).stays end bytes more f are plain is)
        go (later run is is') =
            ap (λ (found : Reading (List ℕ)). found >>= behind (end + length more)) (reads_on (run_at len) (λ l. (length l ≡ len) × IsBytes l) (λ l. l) (run_reads len) end bytes more run.0 run.1 are is)
            ∙ ap (λ (at' : ℕ). whole at at' (run.1 ++ more) (inner at' run.0)) (place_on end run.1 more)
            ∙ more_whole (place end run.1) (inner (place end run.1) run.0) run.1 (run.1 ++ more) is'

-- ---- lists whose items have a shape of their own, and one beside those before them

pub all_split : {A : Type 0} (P : A → Type 0) (R : List A → A → Type 0) (before xs : List A) → AllAfter (λ b x. P x × R b x) before xs → AllByRecursion P xs × AllAfter R before xs
all_split P R before [] all = (tt, tt)
all_split P R before (x ∷ xs) all = let q = all_split P R (before ++ x ∷ []) xs all.1 in ((all.0.0, q.0), (all.0.1, q.1))

pub all_joined : {A : Type 0} (P : A → Type 0) (R : List A → A → Type 0) (before xs : List A) → AllByRecursion P xs → AllAfter R before xs → AllAfter (λ b x. P x × R b x) before xs
all_joined P R before [] all beside = tt
all_joined P R before (x ∷ xs) all beside = ((all.0, beside.0), all_joined P R (before ++ x ∷ []) xs all.1 beside.1)

pub all_as : {A : Type 0} (P Q : A → Type 0) → ((x : A) → P x → Q x) → (xs : List A) → AllByRecursion P xs → AllByRecursion Q xs
all_as P Q on [] all = tt
all_as P Q on (x ∷ xs) all = (on x all.0, all_as P Q on xs all.1)

map_end : {A B : Type 0} (f : A → B) (before : List A) (x : A) → map f (before ++ x ∷ []) ≡ map f before ++ f x ∷ []
map_end f [] x = refl
map_end {B = B} f (y ∷ before) x = ap (λ (l : List B). f y ∷ l) (map_end f before x)

pub all_mapped : {A B : Type 0} (f : A → B) (R : List B → B → Type 0) (before xs : List A) → AllAfter (λ b x. R (map f b) (f x)) before xs → AllAfter R (map f before) (map f xs)
all_mapped f R before [] all = tt
all_mapped {B = B} f R before (x ∷ xs) all = (all.0, subst (λ (b : List B). AllAfter R b (map f xs)) (map_end f before x) (all_mapped f R (before ++ x ∷ []) xs all.1))

pub all_unmapped : {A B : Type 0} (f : A → B) (R : List B → B → Type 0) (before xs : List A) → AllAfter R (map f before) (map f xs) → AllAfter (λ b x. R (map f b) (f x)) before xs
all_unmapped f R before [] all = tt
all_unmapped {B = B} f R before (x ∷ xs) all = (all.0, all_unmapped f R (before ++ x ∷ []) xs (subst (λ (b : List B). AllAfter R b (map f xs)) (sym (map_end f before x)) all.1))
