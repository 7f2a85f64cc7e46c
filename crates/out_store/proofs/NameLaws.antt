-- The names of a task's files are paths, and names of different tasks, kinds and numbers differ.
use Rattle.std.proofs.Common.{◌≡◌, ◌≢◌, ℕ, zero, suc, ◌+◌, ◌%◌, ◌^◌, ◌<◌, ◌≤◌, ◌==◌, ◌||◌, Bool, true, false, IsTrue, List, [], ◌∷◌, ◌++◌, length, codes, cond, Contains, IsUtf8, IsAscii, inl, inr, refl, sym, ap, subst, ◌∙◌, arith, lit<, append_assoc, true≢false}
use Rattle.std.specs.Char.{is_ascii_alphabetic}
use Rattle.std.specs.Fmt.{decimal}
use Rattle.std.specs.List.{All, AllByRecursion, onto_first, slice_split}
use Rattle.std.proofs.lemmas.Bool.{ne_eqb}
use Rattle.std.proofs.lemmas.Bool.Decides.{nat_tests}
use Rattle.std.proofs.lemmas.Fmt.{decimal_by_steps, decimal_injective, length-decimal-le}
use Rattle.std.proofs.lemmas.List.{length-append}
use Rattle.std.proofs.lemmas.List.Elements.{All-weaker, All-from_recursion, recursion_from_All}
use Rattle.std.proofs.lemmas.List.Splits.{length-slice_split}
use Rattle.std.proofs.lemmas.Str.{IsUtf8-from_ascii}
use Rattle.tree_value.specs.Paths.{IsPath, IsSegment, segments}
use Rattle.value_text.specs.Texts.{slashed}
use Rattle.out_store.specs.Names.{is_word_byte, IsTaskPart, IsTaskName, IsNumber, IsOf, Lacks, entry_name, log_name, generation_name}
use Rattle.out_store.proofs.Cuts.{first_cut, exchange, exchange-exchange, lacks-exchange, split-append, onto_last, split-onto_last, one_part}

-- ---- the bytes of a task's name

abbrev is_task_byte : ℕ → Bool
is_task_byte b = b == 46 || is_word_byte b

abbrev Words : List ℕ → Type 0
Words xs = AllByRecursion (λ b. IsTrue (is_word_byte b)) xs

abbrev dot : ℕ → Bool
dot b = b == 46

abbrev slash : ℕ → Bool
slash b = b == 47

some_part : (p : ℕ → Bool) (xs : List ℕ) → 0 < length (slice_split p xs)
some_part p xs = let some = length-slice_split p xs in omega (arith, some)

off_first : (x : ℕ) (parts : List (List ℕ)) → 0 < length parts → AllByRecursion Words (onto_first x parts) → IsTrue (is_word_byte x) × AllByRecursion Words parts
off_first x [] some h = absurd (omega (arith, some))
off_first x (part ∷ parts) some h = (h.0.0, (h.0.1, h.1))

dot_byte : (x : ℕ) (b : Bool) → (x == 46) ≡ true → IsTrue (x == 46 || b)
dot_byte x b is = ap (λ t. t || b) is

word_byte : (b c : Bool) → c ≡ true → IsTrue (b || c)
word_byte true c is = refl
word_byte false c is = is

all_bytes : (xs : List ℕ) → AllByRecursion Words (slice_split dot xs) → AllByRecursion (λ b. IsTrue (is_task_byte b)) xs
all_bytes [] h = tt
all_bytes (x ∷ xs) h = elim (x == 46) as (λ t. (x == 46) ≡ t → AllByRecursion Words (cond t ([] ∷ slice_split dot xs) (onto_first x (slice_split dot xs))) → IsTrue (is_task_byte x) × AllByRecursion (λ b. IsTrue (is_task_byte b)) xs) [
  | true ↦ λ is k. (dot_byte x (is_word_byte x) is, all_bytes xs k.1)
  | false ↦ λ is k. let parts = off_first x (slice_split dot xs) (some_part dot xs) k in (word_byte (x == 46) (is_word_byte x) parts.0, all_bytes xs parts.1)
] refl h

words_of : (part : List ℕ) → IsTaskPart part → Words part
words_of part is = recursion_from_All (λ b. IsTrue (is_word_byte b)) part is.words

task_bytes : (task : List ℕ) → IsTaskName task → AllByRecursion (λ b. IsTrue (is_task_byte b)) task
task_bytes task name = all_bytes task (recursion_from_All Words (slice_split dot task) (All-weaker IsTaskPart Words words_of (slice_split dot task) name.parts))

not_byte : (x c : ℕ) → is_task_byte c ≡ false → IsTrue (is_task_byte x) → (x == c) ≡ false
not_byte x c none is = ne_eqb x c (λ e. true≢false (sym is ∙ ap is_task_byte e ∙ none))

no_slash_in : (xs : List ℕ) → AllByRecursion (λ b. IsTrue (is_task_byte b)) xs → Lacks 47 xs
no_slash_in [] h = tt
no_slash_in (x ∷ xs) h = (not_byte x 47 refl h.0, no_slash_in xs h.1)

pub no_slash : (task : List ℕ) → IsTaskName task → Lacks 47 task
no_slash task name = no_slash_in task (task_bytes task name)

-- ---- the folder of a task

pub no_dot : (task : List ℕ) → Lacks 46 (slashed task)
no_dot task = lacks-exchange 46 47 task refl

pub dotted : (task : List ℕ) → IsTaskName task → exchange 47 46 (slashed task) ≡ task
dotted task name = exchange-exchange 46 47 task (no_slash task name)

pub same_folder : (t u : List ℕ) → IsTaskName t → IsTaskName u → slashed t ≡ slashed u → t ≡ u
same_folder t u h k e = sym (dotted t h) ∙ ap (exchange 47 46) e ∙ dotted u k

-- ---- digits

pub record IsDigitByte (b : ℕ) : Type 0 where
  pub low : 48 ≤ b
  pub high : b < 58

all_append : {X : Type 0} (P : X → Type 0) (xs ys : List X) → AllByRecursion P xs → AllByRecursion P ys → AllByRecursion P (xs ++ ys)
all_append P [] ys h k = k
all_append P (x ∷ xs) ys h k = (h.0, all_append P xs ys h.1 k)

pub digit_bytes : (n : ℕ) → n < 2 ^ 64 → AllByRecursion IsDigitByte (decimal n)
digit_bytes = decimal_by_steps (λ n ds. AllByRecursion IsDigitByte ds)
    (λ n small. (record { low = omega arith; high = omega arith }, tt))
    (λ n ds big h. all_append IsDigitByte ds ((48 + n % 10) ∷ []) h (record { low = omega arith; high = omega arith }, tt))

no_slash_digits : (xs : List ℕ) → AllByRecursion IsDigitByte xs → Lacks 47 xs
no_slash_digits [] h = tt
no_slash_digits (x ∷ xs) h = let low = h.0.low in (ne_eqb x 47 (λ e. omega arith), no_slash_digits xs h.1)

pub no_slash_number : (n : ℕ) → IsNumber n → Lacks 47 (decimal n)
no_slash_number n is = let high = is.1 in no_slash_digits (decimal n) (digit_bytes n (omega arith))

-- ---- which names are the same

-- a generation's name, as it is cut at the first dot
pub generation_cut : (task : List ℕ) (n : ℕ) (path : List ℕ) → generation_name task n path ≡ slashed task ++ 46 ∷ (codes "dest/g" ++ (decimal n ++ 47 ∷ path))
generation_cut task n path = refl

-- two names that are cut at the first dot
pub same_cut : (t u v w : List ℕ) → IsTaskName t → IsTaskName u → slashed t ++ 46 ∷ v ≡ slashed u ++ 46 ∷ w → (t ≡ u) × (v ≡ w)
same_cut t u v w h k e = let both = first_cut 46 (slashed t) (slashed u) v w (no_dot t) (no_dot u) e in (same_folder t u h k both.0, both.1)

pub same_generation : (t u : List ℕ) (m n : ℕ) (p q : List ℕ) → IsTaskName t → IsTaskName u → IsNumber m → IsNumber n → generation_name t m p ≡ generation_name u n q → (t ≡ u) × (m ≡ n) × (p ≡ q)
same_generation t u m n p q h k a b e =
    let both = same_cut t u _ _ h k (sym (generation_cut t m p) ∙ e ∙ generation_cut u n q) in
    let rest : decimal m ++ 47 ∷ p ≡ decimal n ++ 47 ∷ q = cc (both.1) in
    let parts = first_cut 47 (decimal m) (decimal n) p q (no_slash_number m a) (no_slash_number n b) rest in
    let high = a.1 in
    let high_too = b.1 in
    (both.0, decimal_injective m n (omega arith) (omega arith) parts.0, parts.1)

pub one_generation : (t u : List ℕ) (m n : ℕ) (name : List ℕ) → IsOf t m name → IsOf u n name → (t ≡ u) × (m ≡ n)
one_generation t u m n name h k =
    let both = same_generation t u m n h.below.0 k.below.0 h.named k.named h.counted k.counted (sym h.below.1 ∙ k.below.1) in
    (both.0, both.1)

pub entry_not_generation : (t u : List ℕ) (n : ℕ) (p : List ℕ) → IsTaskName t → IsTaskName u → entry_name t ≢ generation_name u n p
entry_not_generation t u n p h k e = let both = same_cut t u _ _ h k (e ∙ generation_cut u n p) in let rest = both.1 in cc

pub log_not_generation : (t u : List ℕ) (n : ℕ) (p : List ℕ) → IsTaskName t → IsTaskName u → log_name t ≢ generation_name u n p
log_not_generation t u n p h k e = let both = same_cut t u _ _ h k (e ∙ generation_cut u n p) in let rest = both.1 in cc

pub entry_not_log : (t u : List ℕ) → IsTaskName t → IsTaskName u → entry_name t ≢ log_name u
entry_not_log t u h k e = let both = same_cut t u (codes "json") (codes "log") h k e in let rest = both.1 in cc

pub same_entry : (t u : List ℕ) → IsTaskName t → IsTaskName u → entry_name t ≡ entry_name u → t ≡ u
same_entry t u h k e = (same_cut t u (codes "json") (codes "json") h k e).0

-- ---- names are paths

record IsPlain (b : ℕ) : Type 0 where
  low : 0 < b
  high : b < 128

word_plain : (b : ℕ) → IsTrue (is_word_byte b) → IsPlain b
word_plain b is = record { low = grind (arith, nat_tests); high = grind (arith, nat_tests) }

all_plain : (xs : List ℕ) → Words xs → AllByRecursion IsPlain xs
all_plain [] h = tt
all_plain (x ∷ xs) h = (word_plain x h.0, all_plain xs h.1)

digits_plain : (xs : List ℕ) → AllByRecursion IsDigitByte xs → AllByRecursion IsPlain xs
digits_plain [] h = tt
digits_plain (x ∷ xs) h = let low = h.0.low in let high = h.0.high in (record { low = omega arith; high = omega arith }, digits_plain xs h.1)

plain_ascii : (xs : List ℕ) → AllByRecursion IsPlain xs → IsAscii xs
plain_ascii [] h i = omega arith
plain_ascii (x ∷ xs) h zero = h.0.high
plain_ascii (x ∷ xs) h (suc i) = plain_ascii xs h.1 i

plain_no_nul : (xs : List ℕ) → AllByRecursion IsPlain xs → Contains xs 0 → ⊥
plain_no_nul [] h (k, within, is) = omega arith
plain_no_nul (x ∷ xs) h (zero, within, is) = let low = h.0.low in omega arith
plain_no_nul (x ∷ xs) h (suc k, within, is) = plain_no_nul xs h.1 (k, omega arith, is)

-- plain bytes that do not begin with a dot are a segment
plain_segment : (x : ℕ) (xs : List ℕ) → x ≢ 46 → length xs < 200 → AllByRecursion IsPlain (x ∷ xs) → IsSegment (x ∷ xs)
plain_segment x xs other short h = record {
  some = omega arith;
  within = omega arith;
  text = IsUtf8-from_ascii (x ∷ xs) (plain_ascii (x ∷ xs) h);
  no_nul = plain_no_nul (x ∷ xs) h;
  not_here = λ e. other (cc);
  not_above = λ e. other (cc);
}

letter_no_dot : (b : ℕ) → IsTrue (is_ascii_alphabetic b) → b ≢ 46
letter_no_dot b is e = true≢false (sym is ∙ ap is_ascii_alphabetic e)

part_segment : (part ys : List ℕ) → length ys ≤ 9 → AllByRecursion IsPlain ys → IsTaskPart part → IsSegment (part ++ ys)
part_segment [] ys short plain is = absurd (let some = is.some in omega (arith, some))
part_segment (x ∷ xs) ys short plain is =
    let within = is.within in
    plain_segment x (xs ++ ys) (letter_no_dot x is.letter) (omega (arith, length-append xs ys)) (all_append IsPlain (x ∷ xs) ys (all_plain (x ∷ xs) (words_of (x ∷ xs) is)) plain)

part_alone : (part : List ℕ) → IsTaskPart part → IsSegment part
part_alone [] is = absurd (let some = is.some in omega (arith, some))
part_alone (x ∷ xs) is =
    let within = is.within in
    plain_segment x xs (letter_no_dot x is.letter) (omega arith) (all_plain (x ∷ xs) (words_of (x ∷ xs) is))

parts_segments : (ys : List ℕ) (parts : List (List ℕ)) → 0 < length parts → length ys ≤ 9 → AllByRecursion IsPlain ys → AllByRecursion IsTaskPart parts → AllByRecursion IsSegment (onto_last ys parts)
parts_segments ys [] some short plain h = absurd (omega (arith, some))
parts_segments ys (part ∷ []) some short plain h = (part_segment part ys short plain h.0, tt)
parts_segments ys (part ∷ next ∷ parts) some short plain h = (part_alone part h.0, parts_segments ys (next ∷ parts) (omega arith) short plain h.1)

-- slashes cut the folder where dots cut the task
folder_parts : (xs : List ℕ) → Lacks 47 xs → slice_split slash (slashed xs) ≡ slice_split dot xs
folder_parts [] h = refl
folder_parts (x ∷ xs) h =
    let rest = folder_parts xs h.1 in
    elim (x == 46) as (λ t. (x == 46) ≡ t → cond (cond t 47 x == 47) ([] ∷ slice_split slash (slashed xs)) (onto_first (cond t 47 x) (slice_split slash (slashed xs))) ≡ cond t ([] ∷ slice_split dot xs) (onto_first x (slice_split dot xs))) [
      | true ↦ λ _. ap (λ parts. [] ∷ parts) rest
      | false ↦ λ _. ap (λ b. cond b ([] ∷ slice_split slash (slashed xs)) (onto_first x (slice_split slash (slashed xs)))) h.0 ∙ ap (onto_first x) rest
    ] refl

length-exchange : (from to : ℕ) (xs : List ℕ) → length (exchange from to xs) ≡ length xs
length-exchange from to [] = refl
length-exchange from to (x ∷ xs) = ap suc (length-exchange from to xs)

-- the folder with an ending
folder_segments : (task ys : List ℕ) → IsTaskName task → length ys ≤ 9 → AllByRecursion IsPlain ys → Lacks 47 ys → AllByRecursion IsSegment (segments (slashed task ++ ys))
folder_segments task ys name short plain lacks =
    subst (AllByRecursion IsSegment) (sym (split-onto_last slash (slashed task) ys (one_part 47 ys lacks) ∙ ap (onto_last ys) (folder_parts task (no_slash task name))))
    (parts_segments ys (slice_split dot task) (some_part dot task) short plain (recursion_from_All IsTaskPart (slice_split dot task) name.parts))

plain_ending : (task ys : List ℕ) → IsTaskName task → length ys ≤ 9 → AllByRecursion IsPlain ys → Lacks 47 ys → IsPath (slashed task ++ ys)
plain_ending task ys name short plain lacks =
    let within = name.within in
    record {
      within = omega (arith, length-append (slashed task) ys, length-exchange 46 47 task);
      steps = inr (All-from_recursion IsSegment (segments (slashed task ++ ys)) (folder_segments task ys name short plain lacks));
    }

byte_plain : (b : ℕ) → 0 < b → b < 128 → IsPlain b
byte_plain b low high = record { low = low; high = high }

pub entry_path : (task : List ℕ) → IsTaskName task → IsPath (entry_name task)
entry_path task name =
    plain_ending task (codes ".json") name (omega arith)
    (byte_plain 46 (lit< tt) (lit< tt), (byte_plain 106 (lit< tt) (lit< tt), (byte_plain 115 (lit< tt) (lit< tt), (byte_plain 111 (lit< tt) (lit< tt), (byte_plain 110 (lit< tt) (lit< tt), tt)))))
    (refl, (refl, (refl, (refl, (refl, tt)))))

pub log_path : (task : List ℕ) → IsTaskName task → IsPath (log_name task)
log_path task name =
    plain_ending task (codes ".log") name (omega arith)
    (byte_plain 46 (lit< tt) (lit< tt), (byte_plain 108 (lit< tt) (lit< tt), (byte_plain 111 (lit< tt) (lit< tt), (byte_plain 103 (lit< tt) (lit< tt), tt))))
    (refl, (refl, (refl, (refl, tt))))

-- a generation's name, as its segments stand
generation_steps : (task : List ℕ) (n : ℕ) (path : List ℕ) → generation_name task n path ≡ (slashed task ++ codes ".dest") ++ 47 ∷ ((103 ∷ decimal n) ++ 47 ∷ path)
generation_steps task n path = generation_cut task n path ∙ sym (append_assoc (slashed task) (codes ".dest") (47 ∷ ((103 ∷ decimal n) ++ 47 ∷ path)))

number_segment : (n : ℕ) → IsNumber n → IsSegment (103 ∷ decimal n)
number_segment n is =
    let high = is.1 in
    let short : length (decimal n) ≤ 10 = length-decimal-le 10 n (omega arith) (omega arith) (omega arith) in
    plain_segment 103 (decimal n) (λ e. absurd (omega (arith, e))) (omega arith) (byte_plain 103 (lit< tt) (lit< tt), digits_plain (decimal n) (digit_bytes n (omega arith)))

dest_segments : (task : List ℕ) → IsTaskName task → AllByRecursion IsSegment (segments (slashed task ++ codes ".dest"))
dest_segments task name =
    folder_segments task (codes ".dest") name (omega arith)
    (byte_plain 46 (lit< tt) (lit< tt), (byte_plain 100 (lit< tt) (lit< tt), (byte_plain 101 (lit< tt) (lit< tt), (byte_plain 115 (lit< tt) (lit< tt), (byte_plain 116 (lit< tt) (lit< tt), tt)))))
    (refl, (refl, (refl, (refl, (refl, tt)))))

path_segments : (path : List ℕ) → 0 < length path → IsPath path → All IsSegment (segments path)
path_segments path some is = elim is.steps as (λ _. All IsSegment (segments path)) [
  | inl empty ↦ absurd (let none = ap length empty in omega (arith, none))
  | inr all ↦ all
]

generation_segments : (task : List ℕ) (n : ℕ) (path : List ℕ) → IsTaskName task → IsNumber n → 0 < length path → IsPath path → AllByRecursion IsSegment (segments (generation_name task n path))
generation_segments task n path name is some inner =
    let ending = split-append slash (103 ∷ decimal n) 47 path refl ∙ ap (λ parts. parts ++ segments path) (one_part 47 (103 ∷ decimal n) (refl, no_slash_number n is)) in
    let whole = ap segments (generation_steps task n path) ∙ split-append slash (slashed task ++ codes ".dest") 47 ((103 ∷ decimal n) ++ 47 ∷ path) refl ∙ ap (λ parts. segments (slashed task ++ codes ".dest") ++ parts) ending in
    subst (AllByRecursion IsSegment) (sym whole)
    (all_append IsSegment (segments (slashed task ++ codes ".dest")) ((103 ∷ decimal n) ∷ segments path) (dest_segments task name)
    (number_segment n is, recursion_from_All IsSegment (segments path) (path_segments path some inner)))

pub generation_path : (task : List ℕ) (n : ℕ) (path : List ℕ) → IsTaskName task → IsNumber n → 0 < length path → length path ≤ 700 → IsPath path → IsPath (generation_name task n path)
generation_path task n path name is some short inner =
    let within = name.within in
    let high = is.1 in
    let few : length (decimal n) ≤ 10 = length-decimal-le 10 n (omega arith) (omega arith) (omega arith) in
    let all : length (generation_name task n path) ≤ 1024 = omega (arith, ap length (generation_steps task n path), length-append (slashed task ++ codes ".dest") (47 ∷ ((103 ∷ decimal n) ++ 47 ∷ path)), length-append (slashed task) (codes ".dest"), length-append (103 ∷ decimal n) (47 ∷ path), length-exchange 46 47 task) in
    record { within = all; steps = inr (All-from_recursion IsSegment _ (generation_segments task n path name is some inner)) }

-- ---- a task's name is a text

task_ascii : (xs : List ℕ) → AllByRecursion (λ b. IsTrue (is_task_byte b)) xs → AllByRecursion IsPlain xs
task_ascii [] h = tt
task_ascii (x ∷ xs) h = (record { low = task_low x h.0; high = task_high x h.0 }, task_ascii xs h.1) where
  task_low : (b : ℕ) → IsTrue (is_task_byte b) → 0 < b
  task_low b is = grind (arith, nat_tests)

  task_high : (b : ℕ) → IsTrue (is_task_byte b) → b < 128
  task_high b is = grind (arith, nat_tests)

pub task_text : (task : List ℕ) → IsTaskName task → IsUtf8 task
task_text task name = IsUtf8-from_ascii task (plain_ascii task (task_ascii task (task_bytes task name)))

pub decimal_text : (n : ℕ) → n < 2 ^ 32 → IsUtf8 (decimal n)
decimal_text n small = IsUtf8-from_ascii (decimal n) (plain_ascii (decimal n) (digits_plain (decimal n) (digit_bytes n (omega arith))))
