-- Writing items one after another, as a loop does.
use Rattle.std.proofs.Common.{◌≡◌, ℕ, zero, suc, ◌+◌, ◌≤◌, ◌<◌, ◌^◌, List, [], ◌∷◌, ◌++◌, length, take, drop, get_or, flat_map, Option, None, Bool, false, ltb, refl, sym, ap, subst, ◌∙◌, append_assoc, length-append, arith, add-one, drop-cons}
use Rattle.std.specs.List.{AllByRecursion}
use Rattle.std.proofs.Math.ListN.{drop_of_length-le}
use Rattle.std.proofs.Math.Seq.{get_or-append_seam}
use Rattle.std.proofs.lemmas.Bool.{lt-ltb}
use Rattle.std.proofs.lemmas.List.{append-nil, take_all}
use Rattle.const_pool.specs.declared.write_fault.Part.{Part}
use Rattle.const_pool.specs.declared.write_fault.WriteFault.{WriteFault}
use Rattle.const_pool.specs.declared.write_fault.WriteFault.TheVariants.{TooLarge}
use Rattle.class_write.specs.Order.{unless, ◌<|>◌, first_from, counted, told_from, Refuses}
use Rattle.class_write.proofs.Faults.{none_both, unless_true, refuses_here, refuses_later}

-- the first i items are written and have no fault
pub record SoFar {A : Type 0} (text : A → List ℕ) (Is : A → Type 0) (misfit : ℕ → A → Option WriteFault) (items : List A) (i : ℕ)
    (start out : List ℕ) : Type 0 where
  pub written : out ≡ start ++ flat_map text (take i items)
  pub shaped : AllByRecursion Is (take i items)
  pub left : first_from misfit 0 items ≡ first_from misfit i (drop i items)

pub at_start : {A : Type 0} (text : A → List ℕ) (Is : A → Type 0) (misfit : ℕ → A → Option WriteFault) (items : List A) (start : List ℕ)
    → SoFar text Is misfit items 0 start start
at_start text Is misfit items start = record { written = sym (append-nil start); shaped = tt; left = refl }

-- the item at an index, and those behind it
item : {A : Type 0} (items : List A) (i : ℕ) (x : A) → i < length items → x ≡ get_or items i x → drop i items ≡ x ∷ drop (i + 1) items
item items i x within is = drop-cons items i x within ∙ rw (← is, add-one) refl

pub front_more : {A : Type 0} (items : List A) (i : ℕ) (x : A) → i < length items → x ≡ get_or items i x → take (i + 1) items ≡ take i items ++ x ∷ []
front_more [] i x within is = absurd (omega arith)
front_more (y ∷ items) zero x within is = rw is refl
front_more {A} (y ∷ items) (suc i) x within is = rw add-one (ap (λ (l : List A). y ∷ l) (rw add-one at (front_more items i x (omega arith) is)))

flat_more : {A : Type 0} (text : A → List ℕ) (xs ys : List A) → flat_map text (xs ++ ys) ≡ flat_map text xs ++ flat_map text ys
flat_more text [] ys = refl
flat_more text (x ∷ xs) ys = ap (λ (l : List ℕ). text x ++ l) (flat_more text xs ys) ∙ sym (append_assoc (text x) (flat_map text xs) (flat_map text ys))

all_more : {A : Type 0} (Is : A → Type 0) (xs : List A) (x : A) → AllByRecursion Is xs → Is x → AllByRecursion Is (xs ++ x ∷ [])
all_more Is [] x all one = (one, tt)
all_more Is (y ∷ xs) x all one = (all.0, all_more Is xs x all.1 one)

left_here : {A : Type 0} (misfit : ℕ → A → Option WriteFault) (items : List A) (i : ℕ) (x : A) → i < length items → x ≡ get_or items i x
    → first_from misfit i (drop i items) ≡ (misfit i x <|> first_from misfit (i + 1) (drop (i + 1) items))
unfolding first_from
left_here misfit items i x within is = rw (item items i x within is) refl

pub one_more : {A : Type 0} {text : A → List ℕ} {Is : A → Type 0} {misfit : ℕ → A → Option WriteFault} {items : List A} {i : ℕ} {start out next : List ℕ} (x : A)
    → SoFar text Is misfit items i start out → i < length items → x ≡ get_or items i x → next ≡ out ++ text x → Is x → misfit i x ≡ None
    → SoFar text Is misfit items (i + 1) start next
unfolding ◌<|>◌
one_more {A} {text} {Is} {misfit} {items} {i} {start} {out} {next} x so_far within is written shaped none = record {
  written = written ∙ ap (λ (l : List ℕ). l ++ text x) so_far.written ∙ append_assoc start (flat_map text (take i items)) (text x)
      ∙ ap (λ (l : List ℕ). start ++ l) (ap (λ (l : List ℕ). flat_map text (take i items) ++ l) (sym (append-nil (text x))) ∙ sym (flat_more text (take i items) (x ∷ [])) ∙ ap (flat_map text) (sym (front_more items i x within is)));
  shaped = rw (front_more items i x within is) (all_more Is (take i items) x so_far.shaped shaped);
  left = so_far.left ∙ left_here misfit items i x within is ∙ rw none refl;
}

-- two texts that are written one behind the other
pub written_both : (old a b text one two : List ℕ) → one ≡ old ++ a → two ≡ one ++ b → a ++ b ≡ text → two ≡ old ++ text
written_both old a b text one two first second whole =
    second ∙ ap (λ (l : List ℕ). l ++ b) first ∙ append_assoc old a b ∙ ap (λ (l : List ℕ). old ++ l) whole

-- all items are written
pub all_flat : {A : Type 0} {text : A → List ℕ} {Is : A → Type 0} {misfit : ℕ → A → Option WriteFault} {items : List A} {i : ℕ} {start out : List ℕ}
    → SoFar text Is misfit items i start out → length items ≤ i → out ≡ start ++ flat_map text items
all_flat {A} {text} {Is} {misfit} {items} {i} {start} so_far past = so_far.written ∙ rw (take_all i items past) refl

pub all_shaped : {A : Type 0} {text : A → List ℕ} {Is : A → Type 0} {misfit : ℕ → A → Option WriteFault} {items : List A} {i : ℕ} {start out : List ℕ}
    → SoFar text Is misfit items i start out → length items ≤ i → AllByRecursion Is items
all_shaped {A} {text} {Is} {misfit} {items} {i} so_far past = rw (take_all i items past) at so_far.shaped

pub all_fit : {A : Type 0} {text : A → List ℕ} {Is : A → Type 0} {misfit : ℕ → A → Option WriteFault} {items : List A} {i : ℕ} {start out : List ℕ}
    → SoFar text Is misfit items i start out → length items ≤ i → first_from misfit 0 items ≡ None
unfolding first_from
all_fit {A} {text} {Is} {misfit} {items} {i} so_far past = so_far.left ∙ rw (drop_of_length-le items past) refl

-- the first fault is at an item
pub refused_at : {A : Type 0} {text : A → List ℕ} {Is : A → Type 0} {misfit : ℕ → A → Option WriteFault} {items : List A} {i : ℕ} {start out : List ℕ} (e : WriteFault) (x : A)
    → SoFar text Is misfit items i start out → i < length items → x ≡ get_or items i x → Refuses e (misfit i x) → Refuses e (first_from misfit 0 items)
refused_at {A} {text} {Is} {misfit} {items} {i} e x so_far within is refuses =
    rw (so_far.left, left_here misfit items i x within is) (refuses_here e _ _ refuses)

-- the count before the items
pub refused_count : {A : Type 0} (part : Part) (misfit : ℕ → A → Option WriteFault) (items : List A) (e : WriteFault)
    → Refuses e (unless (ltb (length items) (2 ^ 16)) (TooLarge part)) → Refuses e (counted part misfit items)
unfolding counted
refused_count part misfit items e refuses = refuses_here e _ _ refuses

pub refused_item : {A : Type 0} (part : Part) (misfit : ℕ → A → Option WriteFault) (items : List A) (e : WriteFault)
    → length items < 2 ^ 16 → Refuses e (first_from misfit 0 items) → Refuses e (counted part misfit items)
unfolding counted
refused_item part misfit items e few refuses = refuses_later e _ _ (unless_true _ _ (lt-ltb (length items) (2 ^ 16) few)) refuses

pub counted_fit : {A : Type 0} (part : Part) (misfit : ℕ → A → Option WriteFault) (items : List A)
    → length items < 2 ^ 16 → first_from misfit 0 items ≡ None → counted part misfit items ≡ None
unfolding counted
counted_fit part misfit items few none = none_both _ _ (unless_true _ _ (lt-ltb (length items) (2 ^ 16) few)) none

-- ---- what is told of items

pub told_next : {A : Type 0} (tell : ℕ → A → Bool) (items : List A) (i : ℕ) (x : A) (told : List Bool) (b : Bool) (total : List Bool) → i < length items → x ≡ get_or items i x
    → tell i x ≡ b → told ++ told_from tell i (drop i items) ≡ total → (told ++ b ∷ []) ++ told_from tell (i + 1) (drop (i + 1) items) ≡ total
unfolding told_from
told_next tell items i x told b total within is here so_far =
    append_assoc told (b ∷ []) (told_from tell (i + 1) (drop (i + 1) items)) ∙ rw (item items i x within is, here) at so_far

pub told_all : {A : Type 0} (tell : ℕ → A → Bool) (items : List A) (i : ℕ) (told total : List Bool) → length items ≤ i → told ++ told_from tell i (drop i items) ≡ total → told ≡ total
unfolding told_from
told_all tell items i told total past so_far = sym (append-nil told) ∙ rw (drop_of_length-le items past) at so_far

-- a fault by what is told of an item
told_behind : {A : Type 0} (tell : ℕ → A → Bool) (misfit : Bool → ℕ → A → Option WriteFault) (front : List Bool) (number : ℕ) (items : List A) (told : List Bool) → number ≡ length front
    → told ≡ front ++ told_from tell number items → first_from (λ n x. misfit (get_or told n false) n x) number items ≡ first_from (λ n x. misfit (tell n x) n x) number items
unfolding told_from first_from
told_behind tell misfit front number [] told place is = refl
told_behind {A} tell misfit front number (x ∷ items) told place is =
    let here : get_or told number false ≡ tell number x =
    rw is (subst (λ (k : ℕ). get_or (front ++ tell number x ∷ told_from tell (number + 1) items) k false ≡ tell number x) (sym place) (get_or-append_seam front (tell number x) (told_from tell (number + 1) items) false)) in
    let more : number + 1 ≡ length (front ++ tell number x ∷ []) = ap (λ (k : ℕ). k + 1) place ∙ sym (length-append front (tell number x ∷ [])) in
    let next : first_from (λ n x. misfit (get_or told n false) n x) (number + 1) items ≡ first_from (λ n x. misfit (tell n x) n x) (number + 1) items =
    told_behind tell misfit (front ++ tell number x ∷ []) (number + 1) items told more (is ∙ sym (append_assoc front (tell number x ∷ []) (told_from tell (number + 1) items))) in
    rw (here, next) refl

pub by_told : {A : Type 0} (tell : ℕ → A → Bool) (misfit : Bool → ℕ → A → Option WriteFault) (part : Part) (items : List A) (told : List Bool) → told ≡ told_from tell 0 items
    → counted part (λ n x. misfit (get_or told n false) n x) items ≡ counted part (λ n x. misfit (tell n x) n x) items
unfolding counted
by_told tell misfit part items told is = ap (λ (f : Option WriteFault). unless (ltb (length items) (2 ^ 16)) (TooLarge part) <|> f) (told_behind tell misfit [] 0 items told refl is)
