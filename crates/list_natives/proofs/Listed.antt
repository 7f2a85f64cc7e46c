-- The text of a list, element by element.
use Rattle.std.proofs.Common.{◌≡◌, ℕ, zero, suc, ◌+◌, ◌≤◌, Bool, true, false, List, [], ◌∷◌, ◌++◌, length, drop, refl, sym, subst, ap, ◌∙◌, append_assoc, append-nil, add-one, add-zero, arith}
use Rattle.std.specs.Prelude.{◌&&◌, codes, slice_get, Option, Some, None, is_some, unwrap_or, option_map, option_and_then}
use Rattle.std.specs.List.{list_all}
use Rattle.jvm_heap.specs.declared.slot.Slot.{Slot}
use Rattle.native_model.specs.Worlds.{World}
use Rattle.native_model.specs.Answers.{Progress, throws, results, text_given, gives_text}
use Rattle.native_model.specs.Thrown.{incompatible_change}
use Rattle.native_model.specs.Lists.{element_texts, with_commas, texts_given, list_told}
use Rattle.list_natives.specs.Told.{is_told, text_told, texts_told, taken, element_told, separator}
use Rattle.list_natives.proofs.Answered.{slots_behind, none_behind}

and_true : (b : Bool) → b ≡ (b && true)
and_true true = refl
and_true false = refl

pub all_but_last : (f : Slot → Bool) (slots : List Slot) (slot : Slot) → list_all f (slots ++ slot ∷ []) ≡ (list_all f slots && f slot)
all_but_last f [] slot = by (f slot)
  where
    by : (b : Bool) → (b && true) ≡ b
    by true = refl
    by false = refl
all_but_last f (s ∷ slots) slot = by (f s) (all_but_last f slots slot)
  where
    by : (b : Bool) → list_all f (slots ++ slot ∷ []) ≡ (list_all f slots && f slot) → (b && list_all f (slots ++ slot ∷ [])) ≡ ((b && list_all f slots) && f slot)
    by true later = later
    by false later = refl

pub ruleset told_lists = (all_but_last, append-nil)

all_texts : (w : World) (slots : List Slot) → list_all (is_told w) slots ≡ true → texts_given slots w ≡ Some (texts_told w slots)
all_texts w [] all = refl
all_texts w (slot ∷ slots) all = by (text_given slot w) all (all_texts w slots)
  where
    by : (x : Option (List ℕ)) → (is_some x && list_all (is_told w) slots) ≡ true → (list_all (is_told w) slots ≡ true → texts_given slots w ≡ Some (texts_told w slots)) → option_and_then (λ text. option_map (λ texts. text ∷ texts) (texts_given slots w)) x ≡ Some (unwrap_or x [] ∷ texts_told w slots)
    by None all later = cc
    by (Some text) all later = ap (option_map (λ texts. text ∷ texts)) (later all)

no_texts : (w : World) (slots : List Slot) → list_all (is_told w) slots ≡ false → texts_given slots w ≡ None
no_texts w [] none = cc
no_texts w (slot ∷ slots) none = by (text_given slot w) none (no_texts w slots)
  where
    by : (x : Option (List ℕ)) → (is_some x && list_all (is_told w) slots) ≡ false → (list_all (is_told w) slots ≡ false → texts_given slots w ≡ None) → option_and_then (λ text. option_map (λ texts. text ∷ texts) (texts_given slots w)) x ≡ None
    by None none later = refl
    by (Some text) none later = ap (option_map (λ texts. text ∷ texts)) (later none)

more_commas : (text other : List ℕ) (texts : List (List ℕ)) → with_commas (text ∷ other ∷ texts) ≡ text ++ (codes ", " ++ with_commas (other ∷ texts))
more_commas text other texts = append_assoc text (codes ", ") (with_commas (other ∷ texts))

-- a text, and the separator before those behind it
commas : (text : List ℕ) (behind : List ℕ) (texts : List (List ℕ)) → with_commas (text ∷ element_texts behind texts) ≡ text ++ (separator behind ++ with_commas (element_texts behind texts))
commas text [] texts = sym (append-nil text)
commas text (zero ∷ behind) texts = more_commas text (codes "null") (element_texts behind texts)
commas text (suc o ∷ behind) [] = more_commas text (codes "null") (element_texts behind [])
commas text (suc o ∷ behind) (t ∷ texts) = more_commas text t (element_texts behind texts)

none_later : (xs : List Slot) (at : ℕ) → slice_get xs at ≡ None → drop (suc at) xs ≡ []
none_later [] at is = refl
none_later (x ∷ xs) zero is = cc
none_later (x ∷ xs) (suc at) is = none_later xs at is

first_told : (w : World) (first : ℕ) (behind : List ℕ) (slots : List Slot) (next : ℕ) → with_commas (element_texts (first ∷ behind) (texts_told w (drop next slots))) ≡ element_told w first (slice_get slots next) ++ (separator behind ++ with_commas (element_texts behind (texts_told w (drop (next + taken first) slots))))
first_told w zero behind slots next = rw add-zero (commas (codes "null") behind (texts_told w (drop next slots)))
first_told w (suc o) behind slots next = rw add-one (by (slice_get slots next) refl)
  where
    by : (x : Option Slot) → slice_get slots next ≡ x → with_commas (element_texts (suc o ∷ behind) (texts_told w (drop next slots))) ≡ element_told w (suc o) x ++ (separator behind ++ with_commas (element_texts behind (texts_told w (drop (suc next) slots))))
    by None is =
        let here : drop next slots ≡ [] = none_behind slots next is in
        let later : drop (suc next) slots ≡ [] = none_later slots next is in
        rw (here, later) (commas (codes "null") behind [])
    by (Some slot) is = rw (slots_behind slots next slot is) (commas (text_told w slot) behind (texts_told w (drop (suc next) slots)))

told_behind : (w : World) (first : ℕ) (behind : List ℕ) (slots : List Slot) (next : ℕ) (whole before middle after : List ℕ) → whole ≡ before ++ with_commas (element_texts (first ∷ behind) (texts_told w (drop next slots))) → middle ≡ before ++ element_told w first (slice_get slots next) → after ≡ middle ++ separator behind → whole ≡ after ++ with_commas (element_texts behind (texts_told w (drop (next + taken first) slots)))
told_behind w first behind slots next whole before middle after so_far here more =
    let rest : List ℕ = with_commas (element_texts behind (texts_told w (drop (next + taken first) slots))) in
    let text : List ℕ = element_told w first (slice_get slots next) in
    so_far ∙ (ap (λ l. before ++ l) (first_told w first behind slots next) ∙ (sym (append_assoc before text (separator behind ++ rest)) ∙ (sym (append_assoc (before ++ text) (separator behind) rest) ∙ ap (λ l. l ++ rest) (sym (more ∙ ap (λ l. l ++ separator behind) here)))))

-- an element more is told
pub told_on : (w : World) (first : ℕ) (behind : List ℕ) (slots : List Slot) (next : ℕ) (whole before middle after rest : List ℕ) (given : Option Slot) (used : ℕ) → rest ≡ first ∷ behind → given ≡ slice_get slots next → used ≡ taken first → whole ≡ before ++ with_commas (element_texts rest (texts_told w (drop next slots))) → middle ≡ before ++ element_told w first given → after ≡ middle ++ separator behind → whole ≡ after ++ with_commas (element_texts behind (texts_told w (drop (next + used) slots)))
told_on w first behind slots next whole before middle after rest given used is gave takes so_far here more =
    subst (λ k. whole ≡ after ++ with_commas (element_texts behind (texts_told w (drop (next + k) slots)))) (sym takes)
    (told_behind w first behind slots next whole before middle after (subst (λ l. whole ≡ before ++ with_commas (element_texts l (texts_told w (drop next slots)))) is so_far) (subst (λ x. middle ≡ before ++ element_told w first x) gave here) more)

one_at_most : (first : ℕ) → taken first ≤ 1
one_at_most zero = omega arith
one_at_most (suc o) = omega arith

-- no more answers are taken than there are elements
pub taken_few : (first : ℕ) (behind : List ℕ) (next all : ℕ) (rest : List ℕ) (used : ℕ) → rest ≡ first ∷ behind → used ≡ taken first → next + length rest ≤ all → next + used + length behind ≤ all
taken_few first behind next all rest used is takes few =
    let longer : length rest ≡ length (first ∷ behind) = ap length is in
    omega (arith, longer, takes, one_at_most first, few)

-- what was given is no text
pub none_told : (numbers : List ℕ) (p : Progress) (w : World) → list_all (is_told w) (results p) ≡ false → list_told numbers p w ≡ throws incompatible_change
none_told numbers p w none = rw (no_texts w (results p) none) refl

-- all texts are there
pub all_listed : (numbers : List ℕ) (p : Progress) (w : World) (before units : List ℕ) → list_all (is_told w) (results p) ≡ true → before ≡ 0x5b ∷ with_commas (element_texts numbers (texts_told w (results p))) → units ≡ before ++ 0x5d ∷ [] → list_told numbers p w ≡ gives_text units w
all_listed numbers p w before units all told whole =
    rw (all_texts w (results p) all) (ap (λ l. gives_text l w) (sym (whole ∙ ap (λ l. l ++ 0x5d ∷ []) told)))
