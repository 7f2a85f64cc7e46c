-- How the index of names and the least double follow when one more class is entered.
use Rattle.std.proofs.Common.{◌≡◌, ℕ, zero, suc, ◌+◌, ◌<◌, ◌≤◌, ◌⊎◌, Bool, true, false, cond, List, [], ◌∷◌, length, take, get_or, Option, Some, None, count_by, find, is_some, slice_get, refl, sym, ◌∙◌, ap, subst, inl, inr, arith}
use Rattle.std.specs.Str.{bytes_eq}
use Rattle.std.specs.Cmp.Lexicographic.{slice_cmp, nat_list_cmp_total, nat_list_eq_equiv}
use Rattle.std.specs.Ordering.{nat_cmp, is_eq, is_gt, ordering_reverse}
use Rattle.std.specs.declared.cmp.Ordering.{Ordering}
use Rattle.std.specs.declared.cmp.Ordering.TheVariants.{Less, Equal, Greater}
use Rattle.std.proofs.lemmas.Cmp.{upto, tied_itself}
use Rattle.std.proofs.lemmas.Bool.{cases_Bool}
use Rattle.std.proofs.lemmas.List.{get_or_default, take_all}
use Rattle.std.proofs.lemmas.List.Sums.{count_by_more_yes, count_by_more_no, sum_by-cons}
use Rattle.std.proofs.lemmas.Map.Text.{is_eq-slice_cmp}
use Rattle.std.proofs.lemmas.Slice.Eq.{bytes_eq-Decides}
use Rattle.class_model.specs.declared.class_file.Class.{Class}
use Rattle.class_model.specs.Shape.{class_name}
use Rattle.class_model.specs.Programs.{count_named, find_class, HasDistinctNames, IsLeastDouble, name_at, FoundAmong, IsIndexOf, LeastAmong, IsLesser}

-- a class that is entered at n, under its name
pub record IsEntered (classes : List Class) (n : ℕ) (name : List ℕ) : Type 0 where
  pub within : n < length classes
  pub named : (d : Class) → name_at classes n d ≡ name

-- whether q is the entered name, and how often it comes up to there
pub data Next (classes : List Class) (n : ℕ) (name q : List ℕ) : Type 0 where
  same_name : name ≡ q → is_eq (slice_cmp nat_cmp name q) ≡ true → count_named q (take (n + 1) classes) ≡ count_named q (take n classes) + 1 → Next classes n name q
  other_name : is_eq (slice_cmp nat_cmp name q) ≡ false → count_named q (take (n + 1) classes) ≡ count_named q (take n classes) → Next classes n name q

pub next : (classes : List Class) (n : ℕ) (name q : List ℕ) → Class → IsEntered classes n name → Next classes n name q
next classes n name q d entered = elim (cases_Bool (bytes_eq q name)) [ inl is_it ↦ on_yes is_it | inr not_it ↦ on_no not_it ]
  where
    on_yes : bytes_eq q name ≡ true → Next classes n name q
    on_yes is_it =
        let e : q ≡ name = (bytes_eq-Decides q name).0 is_it in
        let t : bytes_eq name q ≡ true = (bytes_eq-Decides name q).1 (sym e) in
        same_name (sym e) (is_eq-slice_cmp name q ∙ t) (count_by_more_yes (λ c. bytes_eq q (class_name c)) classes n d entered.within (ap (bytes_eq q) (entered.named d) ∙ is_it))

    on_no : bytes_eq q name ≡ false → Next classes n name q
    on_no not_it =
        let f : bytes_eq name q ≡ false = nat_list_eq_equiv.symm name q ∙ not_it in
        other_name (is_eq-slice_cmp name q ∙ f) (count_by_more_no (λ c. bytes_eq q (class_name c)) classes n d entered.within (ap (bytes_eq q) (entered.named d) ∙ not_it))

-- the look-ups of an index after a name was entered
abbrev pub Enters : List ℕ → ℕ → (List ℕ → Option ℕ) → (List ℕ → Option ℕ) → Type 0
Enters name n old new = (q : List ℕ) → new q ≡ cond (is_eq (slice_cmp nat_cmp name q)) (Some n) (old q)

found_later : (classes : List Class) (n : ℕ) (q : List ℕ) (found : Option ℕ) → count_named q (take (n + 1) classes) ≡ count_named q (take n classes) → FoundAmong classes n q found → FoundAmong classes (n + 1) q found
found_later classes n q None e is = e ∙ is
found_later classes n q (Some at) e is = (omega (arith, is.0), omega (arith, e, is.1), is.2)

pub index_more : (classes : List Class) (n : ℕ) (name : List ℕ) (old new : List ℕ → Option ℕ) → Class → IsEntered classes n name
    → Enters name n old new → IsIndexOf classes n old → IsIndexOf classes (n + 1) new
index_more classes n name old new d entered enters index q = go (next classes n name q d entered)
  where
    go : Next classes n name q → FoundAmong classes (n + 1) q (new q)
    go (same_name e is_it count) =
        let at : new q ≡ Some n = enters q ∙ rw is_it refl in
        rw at (omega arith, omega (arith, count), λ c. entered.named c ∙ e)
    go (other_name not_it count) =
        let at : new q ≡ old q = enters q ∙ rw not_it refl in
        rw at (found_later classes n q (old q) count (index q))

-- Nothing is found under a name exactly where no class before has it.
pub absent : (classes : List Class) (n : ℕ) (q : List ℕ) (found : Option ℕ) → FoundAmong classes n q found → is_some found ≡ false → count_named q (take n classes) ≡ 0
absent classes n q None is e = is
absent classes n q (Some at) is e = cc

pub present : (classes : List Class) (n : ℕ) (q : List ℕ) (found : Option ℕ) → FoundAmong classes n q found → is_some found ≡ true → 0 < count_named q (take n classes)
present classes n q None is e = cc
present classes n q (Some at) is e = is.1

not_above_itself : (name : List ℕ) → is_gt (slice_cmp nat_cmp name name) ≡ false
not_above_itself name = ap is_gt (tied_itself nat_list_cmp_total name)

-- entering a class takes not_it count away
no_fewer : (classes : List Class) (n : ℕ) (name q : List ℕ) → Next classes n name q → count_named q (take n classes) ≤ count_named q (take (n + 1) classes)
no_fewer classes n name q (same_name e is_it count) = omega (arith, count)
no_fewer classes n name q (other_name not_it count) = omega (arith, count)

once : (classes : List Class) (n : ℕ) (name : List ℕ) → Class → IsEntered classes n name → count_named name (take (n + 1) classes) ≡ count_named name (take n classes) + 1
once classes n name d entered = go (next classes n name name d entered)
  where
    go : Next classes n name name → count_named name (take (n + 1) classes) ≡ count_named name (take n classes) + 1
    go (same_name e is_it count) = count
    go (other_name not_it count) = let tied : is_eq (slice_cmp nat_cmp name name) ≡ true = ap is_eq (tied_itself nat_list_cmp_total name) in cc

-- a double after a new name is entered was one before
still_double : (classes : List Class) (n : ℕ) (name q : List ℕ) → count_named name (take n classes) ≡ 0 → Next classes n name q
    → 2 ≤ count_named q (take (n + 1) classes) → 2 ≤ count_named q (take n classes)
still_double classes n name q none (same_name e is_it count) two =
    let zero : count_named q (take n classes) ≡ 0 = subst (λ (m : List ℕ). count_named m (take n classes) ≡ 0) e none in
    absurd (omega (arith, zero, count, two))
still_double classes n name q none (other_name not_it count) two = omega (arith, count, two)

at_most_one : (classes : List Class) (n : ℕ) (name q : List ℕ) → count_named name (take n classes) ≡ 0 → Next classes n name q
    → count_named q (take n classes) ≤ 1 → count_named q (take (n + 1) classes) ≤ 1
at_most_one classes n name q none (same_name e is_it count) one =
    let zero : count_named q (take n classes) ≡ 0 = subst (λ (m : List ℕ). count_named m (take n classes) ≡ 0) e none in
    omega (arith, zero, count)
at_most_one classes n name q none (other_name not_it count) one = omega (arith, count, one)

pub least_fresh : (classes : List Class) (n : ℕ) (name : List ℕ) (least : Option ℕ) → Class → IsEntered classes n name
    → count_named name (take n classes) ≡ 0 → LeastAmong classes n least → LeastAmong classes (n + 1) least
least_fresh classes n name None d entered none distinct = λ q. at_most_one classes n name q none (next classes n name q d entered) (distinct q)
least_fresh classes n name (Some at) d entered none (below, is) = (
  omega (arith, below),
  λ e.
      let old = is e in
      let q = name_at classes at e in
      record {
        twice = omega (arith, old.twice, no_fewer classes n name q (next classes n name q d entered));
        least = λ other two. old.least other (still_double classes n name other none (next classes n name other d entered) two);
      },
)

-- the first double is the least
pub least_first : (classes : List Class) (n : ℕ) (name : List ℕ) → Class → IsEntered classes n name
    → 0 < count_named name (take n classes) → HasDistinctNames (take n classes) → LeastAmong classes (n + 1) (Some n)
least_first classes n name d entered some distinct = (
  omega arith,
  λ e.
      rw (entered.named e) (record {
        twice = omega (arith, once classes n name d entered, some);
        least = λ q two. only q (next classes n name q d entered) two;
      }),
)
  where
    only : (q : List ℕ) → Next classes n name q → 2 ≤ count_named q (take (n + 1) classes) → is_gt (slice_cmp nat_cmp name q) ≡ false
    only q (same_name e is_it count) two = rw (← e) (not_above_itself name)
    only q (other_name not_it count) two = absurd (omega (arith, distinct q, count, two))

-- of the least double so far and another double the lesser is the least
pub least_of_two : (classes : List Class) (n : ℕ) (name : List ℕ) (place found : ℕ) → Class → IsEntered classes n name
    → 0 < count_named name (take n classes) → LeastAmong classes n (Some place) → IsLesser classes place n found → LeastAmong classes (n + 1) (Some found)
least_of_two classes n name place found d entered some (below, is) lesser = (
  within lesser.among,
  λ e. record {
    twice = twice e lesser.among;
    least = λ q two. least e q (next classes n name q d entered) two;
  },
)
  where
    within : (found ≡ place) ⊎ (found ≡ n) → found < n + 1
    within (inl e) = omega (arith, e, below)
    within (inr e) = omega (arith, e)

    twice : (e : Class) → (found ≡ place) ⊎ (found ≡ n) → 2 ≤ count_named (name_at classes found e) (take (n + 1) classes)
    twice e (inl f) = let q = name_at classes place e in
        rw f (omega (arith, (is e).twice, no_fewer classes n name q (next classes n name q d entered)))
    twice e (inr f) = rw (f, entered.named e) (omega (arith, once classes n name d entered, some))

    least : (e : Class) (q : List ℕ) → Next classes n name q → 2 ≤ count_named q (take (n + 1) classes) → is_gt (slice_cmp nat_cmp (name_at classes found e) q) ≡ false
    least e q (same_name f is_it count) two = rw (← f, ← entered.named e) (lesser.below_other e)
    least e q (other_name not_it count) two =
        upto nat_list_cmp_total (name_at classes found e) (name_at classes place e) q (lesser.below_one e) ((is e).least q (omega (arith, count, two)))

-- the answer of `cmp` on two names picks the lesser
not_above : (r s : Ordering) → r ≡ ordering_reverse s → s ≡ Greater → is_gt r ≡ false
not_above r Less e g = cc
not_above r Equal e g = cc
not_above r Greater e g = ap is_gt e

pub other_is_lesser : (classes : List Class) (one other : ℕ) (a b : List ℕ) → ((d : Class) → name_at classes one d ≡ a) → ((d : Class) → name_at classes other d ≡ b)
    → slice_cmp nat_cmp a b ≡ Greater → IsLesser classes one other other
other_is_lesser classes one other a b at_one at_other e = record {
  among = inr refl;
  below_one = λ d. rw (at_one d, at_other d) (not_above (slice_cmp nat_cmp b a) (slice_cmp nat_cmp a b) (nat_list_cmp_total.antisymm b a) e);
  below_other = λ d. not_above_itself (name_at classes other d);
}

pub one_is_lesser : (classes : List Class) (one other : ℕ) (a b : List ℕ) → ((d : Class) → name_at classes one d ≡ a) → ((d : Class) → name_at classes other d ≡ b)
    → is_gt (slice_cmp nat_cmp a b) ≡ false → IsLesser classes one other one
one_is_lesser classes one other a b at_one at_other e = record {
  among = inl refl;
  below_one = λ d. not_above_itself (name_at classes one d);
  below_other = λ d. rw (at_one d, at_other d) e;
}

-- an element within a list, at any default
pub named_at : (classes : List Class) (at : ℕ) (c : Class) → at < length classes → c ≡ get_or classes at c → (d : Class) → name_at classes at d ≡ class_name c
named_at classes at c within e d = ap class_name (get_or_default classes at d c within ∙ sym e)

pub not_greater : (r s : Ordering) → r ≡ s → (r ≡ Greater → ⊥) → is_gt s ≡ false
not_greater Less s e n = ap is_gt (sym e)
not_greater Equal s e n = ap is_gt (sym e)
not_greater Greater s e n = absurd (n refl)

count_yes : (p : Class → Bool) (x : Class) (xs : List Class) → p x ≡ true → count_by p (x ∷ xs) ≡ 1 + count_by p xs
count_yes p x xs e = sum_by-cons (λ c. cond (p c) 1 0) x xs ∙ rw e refl

count_no : (p : Class → Bool) (x : Class) (xs : List Class) → p x ≡ false → count_by p (x ∷ xs) ≡ 0 + count_by p xs
count_no p x xs e = sum_by-cons (λ c. cond (p c) 1 0) x xs ∙ rw e refl

-- Where no class passes, none is found; where at most one passes, it is found.
none_passes : (p : Class → Bool) (xs : List Class) → count_by p xs ≡ 0 → find p xs ≡ None
none_passes p [] e = refl
none_passes p (x ∷ xs) e = elim (cases_Bool (p x)) [
  | inl t ↦ absurd (omega (arith, count_yes p x xs t, e))
  | inr f ↦ rw f (none_passes p xs (omega (arith, count_no p x xs f, e)))
]

some_pass : (p : Class → Bool) (xs : List Class) (i : ℕ) (d : Class) → i < length xs → p (get_or xs i d) ≡ true → 0 < count_by p xs
some_pass p [] i d within t = absurd (omega arith)
some_pass p (x ∷ xs) zero d within t = omega (arith, count_yes p x xs t)
some_pass p (x ∷ xs) (suc i) d within t =
    let more = some_pass p xs i d (omega arith) t in
    elim (cases_Bool (p x)) [ inl y ↦ omega (arith, count_yes p x xs y) | inr f ↦ omega (arith, count_no p x xs f, more) ]

one_passes : (p : Class → Bool) (xs : List Class) (i : ℕ) → count_by p xs ≤ 1 → i < length xs → ((d : Class) → p (get_or xs i d) ≡ true)
    → find p xs ≡ slice_get xs i
one_passes p [] i one within t = absurd (omega arith)
one_passes p (x ∷ xs) zero one within t = rw (t x) refl
one_passes p (x ∷ xs) (suc i) one within t =
    elim (cases_Bool (p x)) [
      | inl y ↦ absurd (omega (arith, count_yes p x xs y, one, some_pass p xs i x (omega arith) (t x)))
      | inr f ↦ rw f (one_passes p xs i (omega (arith, count_no p x xs f, one)) (omega arith) t)
    ]

-- what an index finds is the class of the name
pub found_class : (classes : List Class) (q : List ℕ) (at : ℕ) → HasDistinctNames classes → FoundAmong classes (length classes) q (Some at)
    → find_class q classes ≡ slice_get classes at
unfolding find_class
found_class classes q at distinct (within, some, named) =
    one_passes (λ c. bytes_eq q (class_name c)) classes at (distinct q) within (λ d. ap (bytes_eq q) (named d) ∙ nat_list_eq_equiv.refl q)

pub no_class : (classes : List Class) (q : List ℕ) → FoundAmong classes (length classes) q None → find_class q classes ≡ None
unfolding find_class
no_class classes q none = none_passes (λ c. bytes_eq q (class_name c)) classes (subst (λ (xs : List Class). count_named q xs ≡ 0) (take_all (length classes) classes (omega arith)) none)

-- what holds of the first n classes holds of all
pub index_all : (classes : List Class) (n : ℕ) (find : List ℕ → Option ℕ) → n ≡ length classes → IsIndexOf classes n find → IsIndexOf classes (length classes) find
index_all classes n find e index = subst (λ (m : ℕ). IsIndexOf classes m find) e index

pub distinct_all : (classes : List Class) (n : ℕ) → length classes ≤ n → LeastAmong classes n None → HasDistinctNames classes
distinct_all classes n e distinct = subst HasDistinctNames (take_all n classes e) distinct

pub double_all : (classes : List Class) (n at : ℕ) (c : Class) → length classes ≤ n → c ≡ get_or classes at c → LeastAmong classes n (Some at) → IsLeastDouble (class_name c) classes
double_all classes n at c e is (below, double) =
    subst (IsLeastDouble (class_name c)) (take_all n classes e) (subst (λ (name : List ℕ). IsLeastDouble name (take n classes)) (ap class_name (sym is)) (double c))

-- a list with a double has no distinct names
pub not_distinct : (classes : List Class) (name : List ℕ) → IsLeastDouble name classes → HasDistinctNames classes → ⊥
not_distinct classes name double distinct = omega (arith, double.twice, distinct name)
