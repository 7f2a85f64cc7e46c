-- To which place the reading of a pool comes before a fault.
use Rattle.std.proofs.Common.{◌≡◌, ℕ, zero, suc, eqb, ◌-◌, ◌^◌, ◌<◌, ◌≤◌, Bool, true, false, not, ◌⊎◌, List, [], ◌∷◌, ◌++◌, length, flat_map, Option, Some, None, Ok, Err, refl, sym, ap, subst, ◌∙◌, append_assoc, arith, inl, inr}
use Rattle.std.specs.List.{AllByRecursion}
use Rattle.std.specs.Int.{w16, to_be_bytes}
use Rattle.std.proofs.lemmas.Bool.{cases_Bool, and_parts, not-true}
use Rattle.std.proofs.lemmas.List.{length-append}
use Rattle.std.proofs.lemmas.Grind.{flat_map-append}
use Rattle.class_model.specs.declared.constant_pool.Constant.{Constant}
use Rattle.class_model.specs.declared.constant_pool.Constant.TheVariants.{Second}
use Rattle.class_model.specs.declared.constant_pool.Pool.{Pool}
use Rattle.class_model.specs.Constants.{IsConstant, takes_two, is_second, has_seconds}
use Rattle.class_model.specs.Spelling.{constant}
use Rattle.class_text.specs.Reading.{Fault, cut_short, bad_index, ◌>>=◌, place, fault_place, number_at, or_cut, IsBytes}
use Rattle.class_text.specs.Pool.{constant_at_front, constants_at, with_first_constant, wrong_at, pool_of, unless_wrong, judged, pool_behind_count, pool_at}
use Rattle.class_text.specs.Places.{Stops}
use Rattle.class_text.proofs.Numbers.{Takes, wide16, number_takes, number_again}
use Rattle.class_text.proofs.Constants.{constant_taken, constant_again}
use Rattle.class_text.proofs.Pools.{AreTaken, constants_taken, is_it, room_for}
use Rattle.class_text.proofs.Continued.{constant_more}
use Rattle.class_text.proofs.Places.{Failed, first, later, bind_err, err_is, constant_place, not_second}
use Rattle.class_text.proofs.Readers.{Reads, bind}
use Rattle.class_text.proofs.PoolPlaces.{one_at, list_at}
use Rattle.class_text.proofs.Targets.{split}
use Rattle.class_text.proofs.Stops.{Tied, NoFault, CutsNothing, stops_here, made_tied, bind_tied}

pub IsOne : ℕ → Constant → Type 0
IsOne left c = IsConstant c × (is_second c ≡ false) × (takes_two c ≡ true → 2 ≤ left)

pub one_reads : (left : ℕ) → Reads (one_at left) (IsOne left) constant
unfolding IsOne
one_reads left = record {
  takes = λ end bytes c rest are e. let t = constant_taken end left bytes c rest are e in ((t.fits, t.plain, t.room), t.takes);
  again = λ end c rest p. constant_again end left c rest p.0 p.1 p.2;
  stays = λ end bytes more f are plain e. constant_more end left bytes more f are plain e;
}

-- nothing else has a fault
abbrev NoneThere : ℕ → List ℕ → Fault → Type 0
NoneThere end rest f = ⊥

one_tied : (left : ℕ) → Tied 0 NoFault NoneThere (one_at left)
unfolding constant_at_front
one_tied left end bytes f are room e = inl (stops_here (one_at left) NoneThere end bytes f (λ p. refl) (constant_place end left bytes f e))

list_tied : (numbers : ℕ) (due : Bool) → Tied 0 NoFault NoneThere (list_at due numbers)
unfolding constants_at
list_tied zero due = λ end bytes f are room e. absurd cc
list_tied (suc numbers) true = made_tied 0 NoFault NoneThere (list_at false numbers) (λ (cs : List Constant). Second ∷ cs) (list_tied numbers false)
list_tied (suc numbers) false =
    bind_tied 0 NoFault NoneThere (one_at (suc numbers)) (IsOne (suc numbers)) constant (λ c. bind (list_at (takes_two c) numbers) (λ cs end bytes. Ok (c ∷ cs, bytes))) (one_reads (suc numbers)) (one_tied (suc numbers))
    (λ c p. made_tied 0 NoFault NoneThere (list_at (takes_two c) numbers) (λ (cs : List Constant). c ∷ cs) (list_tied numbers (takes_two c)))

-- constants before one that is to come are cut where they end
short_list : (good : List Constant) (due : Bool) (bad : Constant) (more : List Constant) (p : ℕ) → AllByRecursion IsConstant good → is_second bad ≡ false → has_seconds due (good ++ bad ∷ more) ≡ true
    → constants_at p due (length (good ++ bad ∷ more)) (flat_map constant good) ≡ Err (cut_short (place p []))
unfolding constants_at has_seconds constant constant_at_front
short_list [] true bad more p fit plain s = absurd (let parts = and_parts (is_second bad) (has_seconds (takes_two bad) more) s in let h : true ≡ false = sym parts.0 ∙ plain in cc)
short_list [] false bad more p fit plain s = refl
short_list (g ∷ good) true bad more p fit plain s =
    let cs = good ++ bad ∷ more in
    let parts = and_parts (is_second g) (has_seconds (takes_two g) cs) s in
    let same = is_it g parts.0 in
    let others : has_seconds false cs ≡ true = subst (λ (k : Constant). has_seconds (takes_two k) cs ≡ true) same parts.1 in
    rw same (ap (λ read. read >>= with_first_constant Second) (short_list good false bad more p fit.1 plain others))
short_list (g ∷ good) false bad more p fit plain s =
    let cs = good ++ bad ∷ more in
    let parts = and_parts (not (is_second g)) (has_seconds (takes_two g) cs) s in
    let one = constant_again p (suc (length cs)) g (flat_map constant good) fit.0 (not-true (is_second g) parts.0) (λ two. let h : 1 ≤ length cs = room_for (takes_two g) cs parts.1 two in omega arith) in
    let others = short_list good (takes_two g) bad more p fit.1 plain parts.1 in
    rw (one, others) refl

all_front : {A : Type 0} (P : A → Type 0) (xs ys : List A) → AllByRecursion P (xs ++ ys) → AllByRecursion P xs
all_front P [] ys all = tt
all_front P (x ∷ xs) ys all = (all.0, all_front P xs ys all.1)

pub pool_stops : (W : ℕ → List ℕ → Fault → Type 0) (end : ℕ) (bytes : List ℕ) (f : Fault) → IsBytes bytes → length bytes ≤ end → pool_at end bytes ≡ Err f → Stops pool_at W end bytes f
unfolding pool_at
pool_stops W end bytes f are room e = go (number_at w16 bytes) refl e
  where
    start : ℕ
    start = place end bytes

    none : CutsNothing pool_at
    none p = refl

    -- the constants come to a place
    behind : (count : ℕ) (rest front others : List ℕ) → Takes bytes (to_be_bytes w16 count) rest → count < 2 ^ 16 → eqb count 0 ≡ false → rest ≡ front ++ others
        → constants_at (place end others) false (count - 1) front ≡ Err (cut_short (place end others)) → fault_place f ≡ place end others → Stops pool_at W end bytes f
    behind count rest front others t low some parts cut here =
        let p = place end others in
        record {
          front = to_be_bytes w16 count ++ front;
          rest = others;
          parts = t.parts ∙ ap (λ (l : List ℕ). to_be_bytes w16 count ++ l) parts ∙ sym (append_assoc (to_be_bytes w16 count) front others);
          cut = rw (number_again w16 (2 ^ 16) wide16 count front low, some) (ap (λ read. read >>= judged (place p front)) cut);
          what = inl here;
        }

    wrong : (count : ℕ) (rest : List ℕ) (cs : List Constant) (after : List ℕ) → Takes bytes (to_be_bytes w16 count) rest → count < 2 ^ 16 → eqb count 0 ≡ false → AreTaken false (count - 1) rest cs after
        → (found : Option ℕ) → wrong_at (pool_of cs) (place end rest) cs ≡ found → unless_wrong (cs, after) found ≡ Err f → Stops pool_at W end bytes f
    wrong count rest cs after t low some taken None is e = absurd cc
    wrong count rest cs after t low some taken (Some w) is e =
        let parts = taken.takes.parts in
        let small : length rest ≤ end = omega (arith, ap length t.parts ∙ length-append (to_be_bytes w16 count) rest, room) in
        let s = split (pool_of cs) end cs after w (subst (λ (l : List ℕ). length l ≤ end) parts small) (subst (λ (l : List ℕ). wrong_at (pool_of cs) (place end l) cs ≡ Some w) parts is) in
        let others = flat_map constant (s.bad ∷ s.more) ++ after in
        let p = place end others in
        let fit = all_front IsConstant s.good (s.bad ∷ s.more) (subst (AllByRecursion IsConstant) s.parts taken.fit) in
        let seconds = subst (λ (l : List Constant). has_seconds false l ≡ true) s.parts taken.seconds in
        let many : length (s.good ++ s.bad ∷ s.more) ≡ count - 1 = ap length (sym s.parts) ∙ taken.many in
        let cut : constants_at p false (length (s.good ++ s.bad ∷ s.more)) (flat_map constant s.good) ≡ Err (cut_short (place p [])) = short_list s.good false s.bad s.more p fit (not_second (pool_of cs) s.bad s.wrong) seconds in
        let here : place p [] ≡ p = omega arith in
        behind count rest (flat_map constant s.good) others t low some
        (parts ∙ ap (λ (l : List Constant). flat_map constant l ++ after) s.parts ∙ ap (λ (l : List ℕ). l ++ after) (flat_map-append constant s.good (s.bad ∷ s.more)) ∙ append_assoc (flat_map constant s.good) (flat_map constant (s.bad ∷ s.more)) after)
        (subst (λ (n : ℕ). constants_at p false n (flat_map constant s.good) ≡ Err (cut_short p)) many (subst (λ (q : ℕ). constants_at p false (length (s.good ++ s.bad ∷ s.more)) (flat_map constant s.good) ≡ Err (cut_short q)) here cut))
        (ap fault_place (sym (err_is {A = Pool × List ℕ} (bad_index w) f e)) ∙ s.here)

    come : (count : ℕ) (rest : List ℕ) → Takes bytes (to_be_bytes w16 count) rest → count < 2 ^ 16 → eqb count 0 ≡ false → Stops (list_at false (count - 1)) NoneThere end rest f ⊎ NoFault f → Stops pool_at W end bytes f
    come count rest t low some (inr n) = absurd n
    come count rest t low some (inl s) = behind count rest s.front s.rest t low some s.parts s.cut (here s.what)
      where
        here : {p : ℕ} → (fault_place f ≡ p) ⊎ ⊥ → fault_place f ≡ p
        here (inl h) = h
        here (inr n) = absurd n

    constants : (count : ℕ) (rest : List ℕ) → Takes bytes (to_be_bytes w16 count) rest → count < 2 ^ 16 → eqb count 0 ≡ false → Failed (constants_at end false (count - 1) rest) (judged (place end rest)) f → Stops pool_at W end bytes f
    constants count rest t low some (first is) =
        come count rest t low some (list_tied (count - 1) false end rest f t.rest_fits (omega (arith, ap length t.parts ∙ length-append (to_be_bytes w16 count) rest, room)) is)
    constants count rest t low some (later x is is') =
        wrong count rest x.0 x.1 t low some (constants_taken end (count - 1) false rest x.0 x.1 t.rest_fits (λ due. absurd (let h : false ≡ true = due in cc)) is) (wrong_at (pool_of x.0) (place end rest) x.0) refl is'

    counted : (count : ℕ) (rest : List ℕ) → Takes bytes (to_be_bytes w16 count) rest → count < 2 ^ 16 → pool_behind_count end start (count, rest) ≡ Err f → Stops pool_at W end bytes f
    counted count rest t low e = elim (cases_Bool (eqb count 0)) [
      | inl y ↦ stops_here pool_at W end bytes f none (ap fault_place (sym (err_is {A = Pool × List ℕ} (bad_index start) f (rw y at e))))
      | inr g ↦ constants count rest t low g (bind_err (constants_at end false (count - 1) rest) (judged (place end rest)) f (rw g at e))
    ]

    go : (found : Option (ℕ × List ℕ)) → number_at w16 bytes ≡ found → (or_cut start found >>= pool_behind_count end start) ≡ Err f → Stops pool_at W end bytes f
    go None is e = stops_here pool_at W end bytes f none (ap fault_place (sym (err_is {A = Pool × List ℕ} (cut_short start) f e)))
    go (Some x) is e = let t = number_takes w16 (2 ^ 16) wide16 bytes x.0 x.1 are is in counted x.0 x.1 t.0 t.1 e
