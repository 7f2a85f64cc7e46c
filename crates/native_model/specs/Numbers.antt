-- Natives of Integer, Long, Boolean and Math.
use Rattle.std.specs.Prelude.{ℕ, ◌/◌, ◌%◌, ◌^◌, ℤ, pos, negsuc, int_lt, Bool, false, not, bit_xor, List, Option, Some, None, option_and_then, if◌then◌else◌}
use Rattle.std.specs.Ordering.{int_eq}
use Rattle.std.specs.Fmt.{signed_decimal}
use Rattle.std.specs.Int.{w32, w64, cast_signed, cast_unsigned, int_min, int_max, int_wrapping_add, int_wrapping_neg}
use Rattle.jvm_heap.specs.Heaps.{box_of_int, box_of_long, box_of_boolean}
use Rattle.native_model.specs.Texts.{truth_text, signed_number_of, if_within}
use Rattle.native_model.specs.Worlds.{World, as_text, as_int, as_long, as_boolean, seen}
use Rattle.native_model.specs.Thrown.{number_format}
use Rattle.native_model.specs.Answers.{Answer, throws, gives_int, gives_truth, gives_long, gives_made, gives_text, on, truth}

-- the low 32 bits of a long (JVMS 6.5, l2i)
abbrev pub narrowed : ℤ → ℤ
narrowed n = cast_signed w32 (cast_unsigned w64 n % 2 ^ 32)

abbrev pub is_same_number : ℤ → Option ℤ → Bool
is_same_number n None = false
is_same_number n (Some m) = int_eq n m

-- Integer

abbrev pub int_box : ℤ → World → Answer
int_box n w = gives_made w (box_of_int n w.heap)

abbrev pub int_or_format : List ℕ → World → Option ℤ → Answer
int_or_format units w None = throws (number_format units)
int_or_format units w (Some n) = gives_int n w

abbrev pub int_parsed : ℕ → World → Answer
int_parsed s w =
    on as_text s w (λ units. int_or_format units w (option_and_then (if_within (negsuc 2147483647) (pos 2147483647)) (signed_number_of units)))

abbrev pub int_text : ℤ → World → Answer
int_text n w = gives_text (signed_decimal n) w

abbrev pub int_sum : ℤ → ℤ → World → Answer
int_sum a b w = gives_int (int_wrapping_add w32 a b) w

-- `intValue()` and `hashCode()`
abbrev pub int_of_box : ℕ → World → Answer
int_of_box o w = on as_int o w (λ n. gives_int n w)

abbrev pub long_of_int_box : ℕ → World → Answer
long_of_int_box o w = on as_int o w (λ n. gives_long n w)

abbrev pub int_box_equals : ℕ → ℕ → World → Answer
int_box_equals o other w = on as_int o w (λ n. gives_truth (is_same_number n (seen as_int other w)) w)

abbrev pub int_box_text : ℕ → World → Answer
int_box_text o w = on as_int o w (λ n. gives_text (signed_decimal n) w)

-- Long

abbrev pub long_box : ℤ → World → Answer
long_box n w = gives_made w (box_of_long n w.heap)

abbrev pub long_or_format : List ℕ → World → Option ℤ → Answer
long_or_format units w None = throws (number_format units)
long_or_format units w (Some n) = gives_long n w

abbrev pub long_parsed : ℕ → World → Answer
long_parsed s w =
    on as_text s w (λ units. long_or_format units w (option_and_then (if_within (negsuc 9223372036854775807) (pos 9223372036854775807)) (signed_number_of units)))

abbrev pub long_sum : ℤ → ℤ → World → Answer
long_sum a b w = gives_long (int_wrapping_add w64 a b) w

abbrev pub int_of_long_box : ℕ → World → Answer
int_of_long_box o w = on as_long o w (λ n. gives_int (narrowed n) w)

abbrev pub long_of_box : ℕ → World → Answer
long_of_box o w = on as_long o w (λ n. gives_long n w)

abbrev pub long_box_equals : ℕ → ℕ → World → Answer
long_box_equals o other w = on as_long o w (λ n. gives_truth (is_same_number n (seen as_long other w)) w)

-- `(int) (v ^ (v >>> 32))`: the two halves by exclusive or
abbrev pub hash_of_long : ℤ → ℤ
hash_of_long n = cast_signed w32 (bit_xor (cast_unsigned w64 n / 2 ^ 32) (cast_unsigned w64 n % 2 ^ 32))

abbrev pub long_box_hash : ℕ → World → Answer
long_box_hash o w = on as_long o w (λ n. gives_int (hash_of_long n) w)

abbrev pub long_box_text : ℕ → World → Answer
long_box_text o w = on as_long o w (λ n. gives_text (signed_decimal n) w)

-- Boolean

abbrev pub boolean_box : ℤ → World → Answer
boolean_box n w = gives_made w (box_of_boolean (not (int_eq n (pos 0))) w.heap)

abbrev pub boolean_of_box : ℕ → World → Answer
boolean_of_box o w = on as_boolean o w (λ b. gives_truth b w)

abbrev pub is_same_truth : Bool → Option Bool → Bool
is_same_truth b None = false
is_same_truth b (Some c) = if b then c else not c

abbrev pub boolean_box_equals : ℕ → ℕ → World → Answer
boolean_box_equals o other w = on as_boolean o w (λ b. gives_truth (is_same_truth b (seen as_boolean other w)) w)

abbrev pub hash_of_boolean : Bool → ℤ
hash_of_boolean b = if b then pos 1231 else pos 1237

abbrev pub boolean_box_hash : ℕ → World → Answer
boolean_box_hash o w = on as_boolean o w (λ b. gives_int (hash_of_boolean b) w)

abbrev pub boolean_box_text : ℕ → World → Answer
boolean_box_text o w = on as_boolean o w (λ b. gives_text (truth_text (truth b)) w)

-- Math

abbrev pub int_abs : ℤ → World → Answer
int_abs n w = gives_int (if int_lt n (pos 0) then int_wrapping_neg w32 n else n) w

abbrev pub long_abs : ℤ → World → Answer
long_abs n w = gives_long (if int_lt n (pos 0) then int_wrapping_neg w64 n else n) w

abbrev pub int_greater : ℤ → ℤ → World → Answer
int_greater a b w = gives_int (int_max a b) w

abbrev pub long_greater : ℤ → ℤ → World → Answer
long_greater a b w = gives_long (int_max a b) w

abbrev pub int_less : ℤ → ℤ → World → Answer
int_less a b w = gives_int (int_min a b) w

abbrev pub long_less : ℤ → ℤ → World → Answer
long_less a b w = gives_long (int_min a b) w
