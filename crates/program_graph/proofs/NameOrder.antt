-- Elements sorted by name: which name the next element has too tells which is the least that two have.
use Rattle.std.proofs.Common.{◌≡◌, ℕ, zero, suc, ◌+◌, ◌<◌, ◌≤◌, Bool, true, false, cond, List, [], ◌∷◌, ◌++◌, map, length, take, get_or, Some, None, count_by, bytes_eq, if◌then◌else◌, IsSortedByKey, All, refl, sym, ◌∙◌, ap, subst, arith, add-one}
use Rattle.std.specs.Cmp.Lexicographic.{slice_cmp, nat_list_cmp_total}
use Rattle.std.specs.Ordering.{nat_cmp, is_eq, is_gt, is_lt, ordering_reverse}
use Rattle.std.specs.declared.cmp.Ordering.{Ordering}
use Rattle.std.specs.declared.cmp.Ordering.TheVariants.{Less, Equal, Greater}
use Rattle.std.proofs.lemmas.Cmp.{alike_right}
use Rattle.std.proofs.lemmas.List.{take_more}
use Rattle.std.proofs.lemmas.List.Elements.{All-head, All-tail}
use Rattle.std.proofs.lemmas.List.Sums.{sum_by-cons}
use Rattle.std.proofs.lemmas.Map.Text.{is_eq-slice_cmp}
use Rattle.std.proofs.lemmas.Slice.Eq.{bytes_eq-Decides}
use Rattle.program_graph.specs.Doubles.{begins_with, next_double}

abbrev order : List ℕ → List ℕ → Ordering
order = slice_cmp nat_cmp

-- counts

abbrev one_if : Bool → ℕ
one_if b = cond b 1 0

pub count_no : {X : Type 0} (p : X → Bool) (x : X) (xs : List X) → p x ≡ false → count_by p (x ∷ xs) ≡ count_by p xs
count_no p x xs e =
    let c = sum_by-cons (λ y. cond (p y) 1 0) x xs in
    let n : one_if (p x) ≡ 0 = ap one_if e in
    omega (arith, c, n)

pub count_yes : {X : Type 0} (p : X → Bool) (x : X) (xs : List X) → p x ≡ true → count_by p (x ∷ xs) ≡ 1 + count_by p xs
count_yes p x xs e =
    let c = sum_by-cons (λ y. cond (p y) 1 0) x xs in
    let n : one_if (p x) ≡ 1 = ap one_if e in
    omega (arith, c, n)

pub count_rest : {X : Type 0} (p : X → Bool) (x : X) (xs : List X) → count_by p xs ≤ count_by p (x ∷ xs)
count_rest p x xs =
    let c = sum_by-cons (λ y. cond (p y) 1 0) x xs in
    omega (arith, c)

pub count_map : {X Y : Type 0} (p : Y → Bool) (f : X → Y) (xs : List X) → count_by p (map f xs) ≡ count_by (λ x. p (f x)) xs
count_map p f [] = refl
count_map p f (x ∷ xs) =
    sum_by-cons (λ y. cond (p y) 1 0) (f x) (map f xs) ∙ ap (λ n. cond (p (f x)) 1 0 + n) (count_map p f xs)
    ∙ sym (sum_by-cons (λ y. cond (p (f y)) 1 0) x xs)

-- two names

below_next : (a b c : List ℕ) → order a b ≡ Less → is_lt (order c b) ≡ false → order a c ≡ Less
below_next a b c less low = go (order c b) refl low
  where
    go : (o : Ordering) → order c b ≡ o → is_lt o ≡ false → order a c ≡ Less
    go Less e f = cc
    go Equal e f = alike_right nat_list_cmp_total c b a e ∙ less
    go Greater e f = nat_list_cmp_total.trans a b c less (nat_list_cmp_total.antisymm b c ∙ ap ordering_reverse e)

pub less_of : (a b : List ℕ) → is_lt (order b a) ≡ false → bytes_eq a b ≡ false → order a b ≡ Less
less_of a b low apart = go (order a b) refl
  where
    go : (o : Ordering) → order a b ≡ o → order a b ≡ Less
    go Less e = e
    go Equal e = let is : true ≡ false = sym (ap is_eq e) ∙ is_eq-slice_cmp a b ∙ apart in cc
    go Greater e =
        let is : true ≡ false = sym (ap is_lt (nat_list_cmp_total.antisymm b a ∙ ap ordering_reverse e)) ∙ low in cc

not_named : (a b : List ℕ) → order a b ≡ Less → bytes_eq a b ≡ false
not_named a b less = sym (is_eq-slice_cmp a b) ∙ ap is_eq less

-- elements whose names don't fall

abbrev pub NextIsLow : {X : Type 0} → (X → List ℕ) → X → List X → Type 0
NextIsLow f x [] = Unit {0}
NextIsLow f x (y ∷ ys) = is_lt (order (f y) (f x)) ≡ false

abbrev pub Rises : {X : Type 0} → (X → List ℕ) → List X → Type 0
Rises f [] = Unit {0}
Rises f (x ∷ xs) = NextIsLow f x xs × Rises f xs

rises_at : {X : Type 0} (f : X → List ℕ) (xs : List X) → ((k : ℕ) (d : X) → suc k < length xs → is_lt (order (f (get_or xs (suc k) d)) (f (get_or xs k d))) ≡ false) → Rises f xs
rises_at f [] h = tt
rises_at f (x ∷ []) h = (tt, tt)
rises_at f (x ∷ y ∷ ys) h = (h zero x (omega arith), rises_at f (y ∷ ys) (λ k d below. h (suc k) d (omega (arith, below))))

pub rises : {X : Type 0} (f : X → List ℕ) (xs : List X) → IsSortedByKey f order xs → Rises f xs
rises f xs up =
    rises_at f xs (λ k d below.
    subst (λ n. is_lt (order (f (get_or xs n d)) (f (get_or xs k d))) ≡ false) (add-one k) (up k d (omega arith) (omega (arith, below))))

none_below : {X : Type 0} (f : X → List ℕ) (name : List ℕ) (x : X) (xs : List X) → order name (f x) ≡ Less → Rises f (x ∷ xs)
    → count_by (λ y. bytes_eq name (f y)) (x ∷ xs) ≡ 0
none_below f name x [] less up = count_no (λ y. bytes_eq name (f y)) x [] (not_named name (f x) less)
none_below f name x (y ∷ ys) less up =
    count_no (λ z. bytes_eq name (f z)) x (y ∷ ys) (not_named name (f x) less)
    ∙ none_below f name y ys (below_next name (f x) (f y) less up.0) up.1

-- where the next element has another name, no later one has this name
fresh : {X : Type 0} (f : X → List ℕ) (x : X) (xs : List X) → Rises f (x ∷ xs) → begins_with f (f x) xs ≡ false
    → count_by (λ y. bytes_eq (f x) (f y)) xs ≡ 0
fresh f x [] up e = refl
fresh f x (y ∷ ys) up e = none_below f (f x) y ys (less_of (f x) (f y) up.0 e) up.1

-- the element's name or another, which the next element hasn't
count_one : {X : Type 0} (f : X → List ℕ) (name : List ℕ) (x : X) (xs : List X) → Rises f (x ∷ xs) → begins_with f (f x) xs ≡ false
    → bytes_eq name (f x) ≡ true → count_by (λ y. bytes_eq name (f y)) (x ∷ xs) ≡ 1
count_one f name x xs up e is =
    let same : name ≡ f x = (bytes_eq-Decides name (f x)).0 is in
    let none : count_by (λ y. bytes_eq name (f y)) xs ≡ 0 = subst (λ n. count_by (λ y. bytes_eq n (f y)) xs ≡ 0) (sym same) (fresh f x xs up e) in
    let c = count_yes (λ y. bytes_eq name (f y)) x xs is in
    omega (arith, none, c)

abbrev pub AreDistinct : {X : Type 0} → (X → List ℕ) → List X → Type 0
AreDistinct f xs = (name : List ℕ) → count_by (λ y. bytes_eq name (f y)) xs ≤ 1

pub no_double : {X : Type 0} (f : X → List ℕ) (xs : List X) → Rises f xs → next_double f xs ≡ None → AreDistinct f xs
no_double f [] up e name = omega arith
no_double f (x ∷ xs) up e name = go (begins_with f (f x) xs) refl e (λ later. no_double f xs up.1 later name)
  where
    at : (b : Bool) → begins_with f (f x) xs ≡ false → count_by (λ y. bytes_eq name (f y)) xs ≤ 1 → bytes_eq name (f x) ≡ b
        → count_by (λ y. bytes_eq name (f y)) (x ∷ xs) ≤ 1
    at true n rest is = let c = count_one f name x xs up n is in omega (arith, c)
    at false n rest is = let c = count_no (λ y. bytes_eq name (f y)) x xs is in omega (arith, c, rest)

    go : (b : Bool) → begins_with f (f x) xs ≡ b → (if b then Some (f x) else next_double f xs) ≡ None
        → (next_double f xs ≡ None → count_by (λ y. bytes_eq name (f y)) xs ≤ 1) → count_by (λ y. bytes_eq name (f y)) (x ∷ xs) ≤ 1
    go true n later rest = cc
    go false n later rest = at (bytes_eq name (f x)) n (rest later) refl

pub record IsLeast {X : Type 0} (f : X → List ℕ) (xs : List X) (name : List ℕ) : Type 0 where
  pub twice : 2 ≤ count_by (λ y. bytes_eq name (f y)) xs
  pub least : (other : List ℕ) → 2 ≤ count_by (λ y. bytes_eq other (f y)) xs → is_gt (order name other) ≡ false

-- the first element has the name of the next
first_twice : {X : Type 0} (f : X → List ℕ) (x : X) (xs : List X) → Rises f (x ∷ xs) → begins_with f (f x) xs ≡ true → IsLeast f (x ∷ xs) (f x)
first_twice f x [] up e = cc
first_twice f x (y ∷ ys) up e = record { twice = twice; least = least }
  where
    twice : 2 ≤ count_by (λ z. bytes_eq (f x) (f z)) (x ∷ y ∷ ys)
    twice =
        let one = count_yes (λ z. bytes_eq (f x) (f z)) x (y ∷ ys) ((bytes_eq-Decides (f x) (f x)).1 refl) in
        let two = count_yes (λ z. bytes_eq (f x) (f z)) y ys e in
        omega (arith, one, two)

    at : (other : List ℕ) (o : Ordering) → order (f x) other ≡ o → 2 ≤ count_by (λ z. bytes_eq other (f z)) (x ∷ y ∷ ys) → is_gt o ≡ false
    at other Less is h = refl
    at other Equal is h = refl
    at other Greater is h =
        let less : order other (f x) ≡ Less = nat_list_cmp_total.antisymm other (f x) ∙ ap ordering_reverse is in
        let none = none_below f other x (y ∷ ys) less up in
        absurd (omega (arith, none, h))

    least : (other : List ℕ) → 2 ≤ count_by (λ z. bytes_eq other (f z)) (x ∷ y ∷ ys) → is_gt (order (f x) other) ≡ false
    least other h = at other (order (f x) other) refl h

later_twice : {X : Type 0} (f : X → List ℕ) (x : X) (xs : List X) (name : List ℕ) → Rises f (x ∷ xs) → begins_with f (f x) xs ≡ false
    → IsLeast f xs name → IsLeast f (x ∷ xs) name
later_twice f x xs name up e is = record {
  twice = let c = count_rest (λ y. bytes_eq name (f y)) x xs in omega (arith, c, is.twice);
  least = λ other h. at other (bytes_eq other (f x)) refl h;
}
  where
    at : (other : List ℕ) (b : Bool) → bytes_eq other (f x) ≡ b → 2 ≤ count_by (λ y. bytes_eq other (f y)) (x ∷ xs) → is_gt (order name other) ≡ false
    at other true n h = let c = count_one f other x xs up e n in absurd (omega (arith, c, h))
    at other false n h = let c = count_no (λ y. bytes_eq other (f y)) x xs n in is.least other (omega (arith, c, h))

pub double : {X : Type 0} (f : X → List ℕ) (xs : List X) (name : List ℕ) → Rises f xs → next_double f xs ≡ Some name → IsLeast f xs name
double f [] name up e = cc
double f (x ∷ xs) name up e = go (begins_with f (f x) xs) refl e (λ later. double f xs name up.1 later)
  where
    go : (b : Bool) → begins_with f (f x) xs ≡ b → (if b then Some (f x) else next_double f xs) ≡ Some name
        → (next_double f xs ≡ Some name → IsLeast f xs name) → IsLeast f (x ∷ xs) name
    go true n later rest = let same : f x ≡ name = cc in subst (IsLeast f (x ∷ xs)) same (first_twice f x xs up n)
    go false n later rest = later_twice f x xs name up n (rest later)

-- the same elements, sorted as what a function makes of them

abbrev EachNext : {X : Type 0} → (X → X → Bool) → List X → Type 0
EachNext {X} lt xs = (k : ℕ) (d : X) → suc k < length xs → lt (get_or xs (suc k) d) (get_or xs k d) ≡ false

next_map : {X Y : Type 0} (lt : Y → Y → Bool) (g : X → Y) (xs : List X) → EachNext (λ x y. lt (g x) (g y)) xs → EachNext lt (map g xs)
next_map lt g [] h k d below = absurd (omega (arith, below))
next_map lt g (x ∷ []) h k d below = absurd (omega (arith, below))
next_map lt g (x ∷ y ∷ ys) h zero d below = h zero x (omega arith)
next_map lt g (x ∷ y ∷ ys) h (suc k) d below = next_map lt g (y ∷ ys) (λ j e b. h (suc j) e (omega (arith, b))) k d (omega (arith, below))

pub sorted_map : {X Y : Type 0} (cmp : Y → Y → Ordering) (g : X → Y) (xs : List X) → IsSortedByKey g cmp xs → IsSortedByKey (λ y. y) cmp (map g xs)
sorted_map cmp g xs up k d low below =
    subst (λ n. is_lt (cmp (get_or (map g xs) n d) (get_or (map g xs) k d)) ≡ false) (sym (add-one k))
    (next_map (λ x y. is_lt (cmp x y)) g xs (λ j e b. subst (λ n. is_lt (cmp (g (get_or xs n e)) (g (get_or xs j e))) ≡ false) (add-one j) (up j e (omega arith) (omega (arith, b)))) k d (omega (arith, below)))

next_unmap : {X Y : Type 0} (lt : Y → Y → Bool) (g : X → Y) (xs : List X) → EachNext lt (map g xs) → EachNext (λ x y. lt (g x) (g y)) xs
next_unmap lt g [] h k d below = absurd (omega (arith, below))
next_unmap lt g (x ∷ []) h k d below = absurd (omega (arith, below))
next_unmap lt g (x ∷ y ∷ ys) h zero d below = h zero (g x) (omega arith)
next_unmap lt g (x ∷ y ∷ ys) h (suc k) d below = next_unmap lt g (y ∷ ys) (λ j e b. h (suc j) e (omega (arith, b))) k d (omega (arith, below))

pub sorted_unmap : {X Y : Type 0} (cmp : Y → Y → Ordering) (g : X → Y) (xs : List X) → IsSortedByKey (λ y. y) cmp (map g xs) → IsSortedByKey g cmp xs
sorted_unmap cmp g xs up k d low below =
    subst (λ n. is_lt (cmp (g (get_or xs n d)) (g (get_or xs k d))) ≡ false) (sym (add-one k))
    (next_unmap (λ x y. is_lt (cmp x y)) g xs (λ j e b. subst (λ n. is_lt (cmp (get_or (map g xs) n e) (get_or (map g xs) j e)) ≡ false) (add-one j) (up j e (omega arith) (omega (arith, b)))) k d (omega (arith, below)))

pub get-map : {X Y : Type 0} (g : X → Y) (xs : List X) (k : ℕ) (d : X) → get_or (map g xs) k (g d) ≡ g (get_or xs k d)
get-map g [] k d = refl
get-map g (x ∷ xs) zero d = refl
get-map g (x ∷ xs) (suc k) d = get-map g xs k d

pub at-read : {X Y : Type 0} (P : Y → Type 0) (g : X → Y) (xs : List X) (i : ℕ) (s : X) → All P (map g xs) → i < length xs → s ≡ get_or xs i s → P (g s)
at-read P g [] i s all below is = absurd (omega (arith, below))
at-read P g (x ∷ xs) zero s all below is = subst (λ y. P (g y)) (sym is) (All-head P (g x) (map g xs) all)
at-read P g (x ∷ xs) (suc i) s all below is = at-read P g xs i s (All-tail P (g x) (map g xs) all) (omega (arith, below)) is

pub length-map : {X Y : Type 0} (g : X → Y) (xs : List X) → length (map g xs) ≡ length xs
length-map g [] = refl
length-map g (x ∷ xs) = ap suc (length-map g xs)

pub take-map : {X Y : Type 0} (g : X → Y) (n : ℕ) (xs : List X) → map g (take n xs) ≡ take n (map g xs)
take-map g zero xs = refl
take-map g (suc n) [] = refl
take-map g (suc n) (x ∷ xs) = ap (λ ys. g x ∷ ys) (take-map g n xs)

pub map-push : {X Y : Type 0} (g : X → Y) (xs : List X) (x : X) → map g (xs ++ x ∷ []) ≡ map g xs ++ g x ∷ []
map-push g [] x = refl
map-push g (y ∷ xs) x = ap (λ ys. g y ∷ ys) (map-push g xs x)

-- the elements up to a place, with the one there
pub next-taken : {X Y : Type 0} (g : X → Y) (xs : List X) (i : ℕ) (s : X) → i < length xs → s ≡ get_or xs i s → map g (take (i + 1) xs) ≡ map g (take i xs) ++ g s ∷ []
next-taken g xs i s below is = ap (map g) (take_more xs i s below ∙ ap (λ x. take i xs ++ x ∷ []) (sym is)) ∙ map-push g (take i xs) s
