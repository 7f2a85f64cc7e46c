-- Members that have one name and one descriptor have one key.
use Rattle.std.proofs.Common.{◌≡◌, ℕ, Bool, true, false, not, ◌&&◌, ◌||◌, ◌==◌, cond, List, [], ◌∷◌, ◌++◌, Some, refl, sym, ap, ◌∙◌}
use Rattle.std.specs.Prelude.{All, OnErr, Result, Ok, Err}
use Rattle.std.specs.List.{list_any}
use Rattle.std.specs.BTreeSet.{contains}
use Rattle.std.specs.Ordering.{nat_cmp, ordering_then, is_eq}
use Rattle.std.specs.declared.cmp.Ordering.{Ordering}
use Rattle.std.specs.declared.cmp.Ordering.TheVariants.{Less, Equal, Greater}
use Rattle.std.proofs.lemmas.List.Elements.{All-nil, All-cons, All-head, All-tail}
use Rattle.class_model.specs.declared.constant_pool.Pool.{Pool}
use Rattle.class_model.specs.declared.class_file.Member.{Member}
use Rattle.class_model.specs.Shape.{name_text, descriptor_text, are_same}
use Rattle.class_text.specs.Attributes.{text_or_empty}
use Rattle.const_pool.specs.declared.text_numbers.TextNumbers.{TextNumbers}
use Rattle.const_pool.specs.declared.member_keys.MemberKeys.{MemberKeys}
use Rattle.const_pool.specs.TextNumbers.{number_in, AreNumbersOf, Grows}
use Rattle.const_pool.specs.SeenMembers.{Key, key_cmp, has_number, is_key_of, IsNumbered, HasSeen}
use Rattle.const_pool.proofs.EqualTexts.{number_tells, is_eq-nat_cmp, grows_on}

both_equal : (a b : Ordering) → is_eq (ordering_then a b) ≡ (is_eq a && is_eq b)
both_equal Less b = refl
both_equal Equal b = refl
both_equal Greater b = refl

same_key : (x y : Key) → is_eq (key_cmp x y) ≡ ((x.0 == y.0) && (x.1 == y.1))
same_key x y = both_equal (nat_cmp x.0 y.0) (nat_cmp x.1 y.1) ∙ rw (is_eq-nat_cmp x.0 y.0, is_eq-nat_cmp x.1 y.1) refl

any_last : {A : Type 0} (test : A → Bool) (xs : List A) (x : A) → list_any test (xs ++ x ∷ []) ≡ cond (test x) true (list_any test xs)
any_last test [] x = last (test x)
  where
    last : (b : Bool) → (b || false) ≡ cond b true false
    last true = refl
    last false = refl
any_last test (y ∷ xs) x = swap (test y) (test x) (list_any test xs) (list_any test (xs ++ x ∷ [])) (any_last test xs x)
  where
    swap : (a b c d : Bool) → d ≡ cond b true c → (a || d) ≡ cond b true (a || c)
    swap true true c d e = refl
    swap true false c d e = refl
    swap false b c d e = e

-- where texts have numbers already
number_stays : (old new : TextNumbers) (text : List ℕ) (number n : ℕ) → ((text : List ℕ) (number : ℕ) → number_in old text ≡ Some number → number_in new text ≡ Some number)
    → number_in old text ≡ Some number → has_number new text n ≡ has_number old text n
number_stays old new text number n kept e = rw (kept text number e, e) refl

numbered_stays : (pool : Pool) (old new : TextNumbers) (m : Member) → Grows pool old new → IsNumbered pool old m → IsNumbered pool new m
numbered_stays pool old new m grows is = record {
  name = (is.name.0, grows.kept (name_text pool m) is.name.0 is.name.1);
  descriptor = (is.descriptor.0, grows.kept (descriptor_text pool m) is.descriptor.0 is.descriptor.1);
}

all_stay : (pool : Pool) (old new : TextNumbers) (members : List Member) → Grows pool old new → All (IsNumbered pool old) members → All (IsNumbered pool new) members
all_stay pool old new [] grows are = All-nil (IsNumbered pool new)
all_stay pool old new (m ∷ members) grows are =
    All-cons (IsNumbered pool new) m members (numbered_stays pool old new m grows (All-head (IsNumbered pool old) m members are))
    (all_stay pool old new members grows (All-tail (IsNumbered pool old) m members are))

keys_stay : (pool : Pool) (old new : TextNumbers) (key : Key) (members : List Member) → Grows pool old new → All (IsNumbered pool old) members
    → list_any (is_key_of pool new key) members ≡ list_any (is_key_of pool old key) members
keys_stay pool old new key [] grows are = refl
keys_stay pool old new key (m ∷ members) grows are =
    let is = All-head (IsNumbered pool old) m members are in
    rw (
      number_stays old new (name_text pool m) is.name.0 key.0 grows.kept is.name.1,
      number_stays old new (descriptor_text pool m) is.descriptor.0 key.1 grows.kept is.descriptor.1,
      keys_stay pool old new key members grows (All-tail (IsNumbered pool old) m members are),
    ) refl

-- more texts have numbers
pub seen_still : (pool : Pool) (before : List Member) (old new : MemberKeys) → Grows pool old.numbers new.numbers → ((q : Key) → contains key_cmp new.seen q ≡ contains key_cmp old.seen q)
    → HasSeen pool before old → HasSeen pool before new
seen_still pool before old new grows same has = record {
  numbers = grows.numbers;
  numbered = all_stay pool old.numbers new.numbers before grows has.numbered;
  seen = λ q. same q ∙ has.seen q ∙ sym (keys_stay pool old.numbers new.numbers q before grows has.numbered);
}

-- a member of this key
pub record IsOfKey (pool : Pool) (numbers : TextNumbers) (m : Member) (key : Key) : Type 0 where
  pub name : number_in numbers (name_text pool m) ≡ Some key.0
  pub descriptor : number_in numbers (descriptor_text pool m) ≡ Some key.1

key_is : (pool : Pool) (numbers : TextNumbers) (m : Member) (key q : Key) → IsOfKey pool numbers m key → is_key_of pool numbers q m ≡ is_eq (key_cmp key q)
key_is pool numbers m key q is = rw (is.name, is.descriptor) (sym (same_key key q))

-- the numbers after a name and a descriptor were asked for
pub record IsAsked (pool : Pool) (name descriptor : ℕ) (key : Key) (old numbers : TextNumbers) : Type 0 where
  pub grows : Grows pool old numbers
  pub name_number : number_in numbers (text_or_empty pool name) ≡ Some key.0
  pub descriptor_number : number_in numbers (text_or_empty pool descriptor) ≡ Some key.1

pub asked : (pool : Pool) (name descriptor : ℕ) (key : Key) (old between numbers : TextNumbers) → Grows pool old between → Grows pool between numbers
    → number_in between (text_or_empty pool name) ≡ Some key.0 → number_in numbers (text_or_empty pool descriptor) ≡ Some key.1 → IsAsked pool name descriptor key old numbers
asked pool name descriptor key old between numbers one two by_name by_descriptor = record {
  grows = grows_on pool old between numbers one two;
  name_number = two.kept (text_or_empty pool name) key.0 by_name;
  descriptor_number = by_descriptor;
}

of_key : (pool : Pool) (name descriptor : ℕ) (key : Key) (old numbers : TextNumbers) (m : Member) → IsAsked pool name descriptor key old numbers → m.name ≡ name → m.descriptor ≡ descriptor
    → IsOfKey pool numbers m key
of_key pool name descriptor key old numbers m is n d = record { name = rw n is.name_number; descriptor = rw d is.descriptor_number }

-- one more member
entered : (pool : Pool) (before : List Member) (m : Member) (key : Key) (old new : MemberKeys) → IsOfKey pool old.numbers m key → new.numbers ≡ old.numbers
    → ((q : Key) → contains key_cmp new.seen q ≡ cond (is_eq (key_cmp key q)) true (contains key_cmp old.seen q)) → HasSeen pool before old → HasSeen pool (before ++ m ∷ []) new
entered pool before m key old new is same updates has = record {
  numbers = rw same has.numbers;
  numbered = rw same (all_last before has.numbered);
  seen = λ q. rw same (updates q ∙ rw (has.seen q, sym (key_is pool old.numbers m key q is)) (sym (any_last (is_key_of pool old.numbers q) before m)));
}
  where
    one : IsNumbered pool old.numbers m
    one = record { name = (key.0, is.name); descriptor = (key.1, is.descriptor) }

    all_last : (members : List Member) → All (IsNumbered pool old.numbers) members → All (IsNumbered pool old.numbers) (members ++ m ∷ [])
    all_last [] are = All-cons (IsNumbered pool old.numbers) m [] one (All-nil (IsNumbered pool old.numbers))
    all_last (x ∷ members) are =
        All-cons (IsNumbered pool old.numbers) x (members ++ m ∷ []) (All-head (IsNumbered pool old.numbers) x members are)
        (all_last members (All-tail (IsNumbered pool old.numbers) x members are))

-- A key is that of a member exactly where the texts are the same.
key_tells : (pool : Pool) (numbers : TextNumbers) (m : Member) (key : Key) (members : List Member) → AreNumbersOf pool numbers → IsOfKey pool numbers m key → All (IsNumbered pool numbers) members
    → list_any (is_key_of pool numbers key) members ≡ list_any (are_same pool m) members
key_tells pool numbers m key [] are is all = refl
key_tells pool numbers m key (n ∷ members) are is all =
    let one = All-head (IsNumbered pool numbers) n members all in
    rw (
      one.name.1,
      one.descriptor.1,
      number_tells pool numbers (name_text pool m) (name_text pool n) key.0 one.name.0 are is.name one.name.1,
      number_tells pool numbers (descriptor_text pool m) (descriptor_text pool n) key.1 one.descriptor.0 are is.descriptor one.descriptor.1,
      key_tells pool numbers m key members are is (All-tail (IsNumbered pool numbers) n members all),
    ) refl

pub seen_more : (pool : Pool) (before : List Member) (m : Member) (name descriptor : ℕ) (key : Key) (old new : MemberKeys) → IsAsked pool name descriptor key old.numbers new.numbers
    → m.name ≡ name → m.descriptor ≡ descriptor → ((q : Key) → contains key_cmp new.seen q ≡ cond (is_eq (key_cmp key q)) true (contains key_cmp old.seen q))
    → HasSeen pool before old → HasSeen pool (before ++ m ∷ []) new
seen_more pool before m name descriptor key old new is n d updates has =
    let between : MemberKeys = record { numbers = new.numbers; seen = old.seen } in
    entered pool before m key between new (of_key pool name descriptor key old.numbers new.numbers m is n d) refl updates
    (seen_still pool before old between is.grows (λ q. refl) has)

pub seen_already : (pool : Pool) (before : List Member) (m : Member) (name descriptor : ℕ) (key : Key) (old : MemberKeys) (numbers : TextNumbers) (added : Bool)
    → IsAsked pool name descriptor key old.numbers numbers → m.name ≡ name → m.descriptor ≡ descriptor
    → added ≡ not (contains key_cmp old.seen key) → HasSeen pool before old → added ≡ not (list_any (are_same pool m) before)
seen_already pool before m name descriptor key old numbers added is n d e has =
    let between : MemberKeys = record { numbers = numbers; seen = old.seen } in
    let still : HasSeen pool before between = seen_still pool before old between is.grows (λ q. refl) has in
    e ∙ ap not (still.seen key ∙ key_tells pool numbers m key before still.numbers (of_key pool name descriptor key old.numbers numbers m is n d) still.numbered)

pub on_err : {X E : Type 0} (r : Result X E) (P : Type 0) → P → OnErr r P
on_err (Ok x) P p = tt
on_err (Err e) P p = p
