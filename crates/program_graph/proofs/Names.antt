-- The names of tasks are ASCII, and so UTF-8.
use Rattle.std.proofs.Common.{◌≡◌, ℕ, zero, suc, Bool, true, false, ◌&&◌, ◌==◌, cond, nat_lt, List, [], ◌∷◌, IsUtf8, refl, arith}
use Rattle.std.specs.List.{list_all, slice_split, onto_first}
use Rattle.std.specs.Str.{byte, IsAscii}
use Rattle.std.proofs.lemmas.Bool.{and_parts, and_from}
use Rattle.std.proofs.lemmas.Str.{IsUtf8-from_ascii}
use Rattle.task_model.specs.TaskNames.{is_letter, may_follow, is_name_segment, name_segments, is_task_name}

abbrev ascii : ℕ → Bool
ascii b = nat_lt b 128

letter-ascii : (b : ℕ) → is_letter b ≡ true → ascii b ≡ true
letter-ascii b is = grind arith

follow-ascii : (b : ℕ) → may_follow b ≡ true → ascii b ≡ true
follow-ascii b is = grind (arith, letter-ascii)

all-ascii : (bytes : List ℕ) → list_all may_follow bytes ≡ true → list_all ascii bytes ≡ true
all-ascii [] is = refl
all-ascii (b ∷ bytes) is =
    let parts = and_parts (may_follow b) (list_all may_follow bytes) is in
    and_from _ _ (follow-ascii b parts.0) (all-ascii bytes parts.1)

segment-ascii : (bytes : List ℕ) → is_name_segment bytes ≡ true → list_all ascii bytes ≡ true
unfolding is_name_segment
segment-ascii [] is = refl
segment-ascii (b ∷ bytes) is =
    let both = and_parts (is_letter b && list_all may_follow bytes) _ is in
    let parts = and_parts (is_letter b) (list_all may_follow bytes) both.0 in
    and_from _ _ (letter-ascii b parts.0) (all-ascii bytes parts.1)

segments-ascii : (parts : List (List ℕ)) → list_all is_name_segment parts ≡ true → list_all (list_all ascii) parts ≡ true
segments-ascii [] is = refl
segments-ascii (part ∷ parts) is =
    let both = and_parts (is_name_segment part) (list_all is_name_segment parts) is in
    and_from _ _ (segment-ascii part both.0) (segments-ascii parts both.1)

onto-ascii : (b : ℕ) (parts : List (List ℕ)) → list_all (list_all ascii) (onto_first b parts) ≡ true → (ascii b ≡ true) × (list_all (list_all ascii) parts ≡ true)
onto-ascii b [] is = let both = and_parts (ascii b && true) true is in ((and_parts (ascii b) true both.0).0, refl)
onto-ascii b (part ∷ parts) is =
    let both = and_parts (ascii b && list_all ascii part) (list_all (list_all ascii) parts) is in
    let first = and_parts (ascii b) (list_all ascii part) both.0 in
    (first.0, and_from _ _ first.1 both.1)

dot-ascii : (b : ℕ) → (b == byte ".") ≡ true → ascii b ≡ true
dot-ascii b is = grind arith

whole-ascii : (bytes : List ℕ) → list_all (list_all ascii) (slice_split (λ b. b == byte ".") bytes) ≡ true → list_all ascii bytes ≡ true
whole-ascii [] is = refl
whole-ascii (b ∷ bytes) is = go (b == byte ".") refl is (λ all. whole-ascii bytes all)
  where
    parts : List (List ℕ)
    parts = slice_split (λ b. b == byte ".") bytes

    go : (dot : Bool) → (b == byte ".") ≡ dot → list_all (list_all ascii) (cond dot ([] ∷ parts) (onto_first b parts)) ≡ true
        → (list_all (list_all ascii) parts ≡ true → list_all ascii bytes ≡ true) → (ascii b && list_all ascii bytes) ≡ true
    go true e all rest = and_from _ _ (dot-ascii b e) (rest all)
    go false e all rest = let both = onto-ascii b parts all in and_from _ _ both.0 (rest both.1)

each-ascii : (bytes : List ℕ) → list_all ascii bytes ≡ true → IsAscii bytes
each-ascii [] all i = omega arith
each-ascii (b ∷ bytes) all zero = let first = (and_parts (ascii b) (list_all ascii bytes) all).0 in grind arith
each-ascii (b ∷ bytes) all (suc i) = each-ascii bytes (and_parts (ascii b) (list_all ascii bytes) all).1 i

pub task_name-IsUtf8 : (name : List ℕ) → is_task_name name ≡ true → IsUtf8 name
unfolding is_task_name
task_name-IsUtf8 name is =
    IsUtf8-from_ascii name (each-ascii name (whole-ascii name (segments-ascii (name_segments name) (and_parts _ (list_all is_name_segment (name_segments name)) is).1)))
