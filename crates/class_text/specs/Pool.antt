-- The first bad place of a constant pool (JVMS 4.4).
use Rattle.std.specs.Prelude.{◌≡◌, ◌⊎◌, ℕ, zero, suc, ◌+◌, ◌-◌, ◌<◌, Bool, true, false, not, ◌&&◌, ◌||◌, ◌==◌, nat_lt, nat_le, List, [], ◌∷◌, ◌++◌, length, take, drop, Option, Some, None, option_map, option_and_then, Ok, Err, if◌then◌else◌}
use Rattle.std.specs.List.{flat_map, AllByRecursion}
use Rattle.std.specs.Int.{Width, to_be_bytes, w16, w32, w64}
use Rattle.class_model.specs.declared.constant_pool.Constant.{Constant}
use Rattle.class_model.specs.declared.constant_pool.Constant.TheVariants.{Utf8, Integer, Float, Long, Double, Class, Text, Ref, NameType, Handle, MethodType, InvokeDynamic, Second}
use Rattle.class_model.specs.declared.constant_pool.Pool.{Pool}
use Rattle.class_model.specs.Units.{is_text}
use Rattle.class_model.specs.Constants.{IsConstant, has_targets, has_seconds, takes_two}
use Rattle.class_model.specs.Spelling as spelling
use Rattle.class_text.specs.Reading.{cut_short, bad_tag, bad_text, bad_index, Reading, ◌>>=◌, place, number_at, or_cut}

-- the tags that stand in a pool
abbrev pub is_tag : ℕ → Bool
is_tag tag = tag == 1 || nat_le 3 tag && nat_le tag 12 || tag == 15 || tag == 16 || tag == 18

-- those of a Long and a Double
abbrev pub is_wide : ℕ → Bool
is_wide tag = tag == 5 || tag == 6

-- constants of one number, and of two of two bytes
abbrev pub constant_of_one : Width → (ℕ → Constant) → List ℕ → Option (Constant × List ℕ)
constant_of_one w make bytes = option_map (λ n. (make n.0, n.1)) (number_at w bytes)

abbrev pub constant_of_two : (ℕ → ℕ → Constant) → List ℕ → Option (Constant × List ℕ)
constant_of_two make bytes = option_and_then (λ m. option_map (λ n. (make m.0 n.0, n.1)) (number_at w16 m.1)) (number_at w16 bytes)

-- a method handle has a kind of one byte
abbrev pub method_handle_at : List ℕ → Option (Constant × List ℕ)
method_handle_at [] = None
method_handle_at (kind ∷ bytes) = constant_of_one w16 (Handle kind) bytes

-- what stands behind a tag, but for a text; None where it is cut
unfoldable pub fixed_at : ℕ → List ℕ → Option (Constant × List ℕ)
fixed_at tag bytes =
    if tag == 3 then constant_of_one w32 Integer bytes
    else if tag == 4 then constant_of_one w32 Float bytes
    else if tag == 5 then constant_of_one w64 Long bytes
    else if tag == 6 then constant_of_one w64 Double bytes
    else if tag == 7 then constant_of_one w16 Class bytes
    else if tag == 8 then constant_of_one w16 Text bytes
    else if tag == 12 then constant_of_two NameType bytes
    else if tag == 15 then method_handle_at bytes
    else if tag == 16 then constant_of_one w16 MethodType bytes
    else if tag == 18 then constant_of_two InvokeDynamic bytes
    else constant_of_two (Ref tag) bytes

-- a text behind its length; it is looked at once it is whole
abbrev pub text_behind_length : ℕ → ℕ × List ℕ → Reading Constant
text_behind_length at n =
    if nat_lt (length n.1) n.0 then Err (cut_short at)
    else if is_text (take n.0 n.1) then Ok (Utf8 (take n.0 n.1), drop n.0 n.1)
    else Err (bad_text at)

unfoldable pub utf8_at : ℕ → List ℕ → Reading Constant
utf8_at at bytes = or_cut at (number_at w16 bytes) >>= text_behind_length at

-- A constant, where so many numbers are left. Its own place names each of its faults.
unfoldable pub constant_at_front : ℕ → ℕ → List ℕ → Reading Constant
constant_at_front end left [] = Err (cut_short (place end []))
constant_at_front end left (tag ∷ bytes) =
    if not (is_tag tag) then Err (bad_tag (place end (tag ∷ bytes)) tag)
    else if is_wide tag && nat_lt left 2 then Err (bad_tag (place end (tag ∷ bytes)) tag)
    else if tag == 1 then utf8_at (place end (tag ∷ bytes)) bytes
    else or_cut (place end (tag ∷ bytes)) (fixed_at tag bytes)

abbrev pub with_first_constant : Constant → List Constant × List ℕ → Reading (List Constant)
with_first_constant first others = Ok (first ∷ others.0, others.1)

-- the constants of so many numbers; `due` says that a Second is to come
unfoldable pub constants_at : ℕ → Bool → ℕ → List ℕ → Reading (List Constant)
constants_at end due zero bytes = Ok ([], bytes)
constants_at end true (suc left) bytes = constants_at end false left bytes >>= with_first_constant Second
constants_at end false (suc left) bytes =
    constant_at_front end (suc left) bytes >>= (λ found. constants_at end (takes_two found.0) left found.1 >>= with_first_constant found.0)

-- the place of the first constant with a wrong target, of those that stand from a place on
unfoldable pub wrong_at : Pool → ℕ → List Constant → Option ℕ
wrong_at pool at [] = None
wrong_at pool at (constant ∷ constants) =
    if has_targets pool constant then wrong_at pool (at + length (spelling.constant constant)) constants else Some at

abbrev pub pool_of : List Constant → Pool
pool_of constants = record { constants = constants }

-- the constants that were read are a pool where no target is wrong
abbrev pub unless_wrong : List Constant × List ℕ → Option ℕ → Reading Pool
unless_wrong found None = Ok (pool_of found.0, found.1)
unless_wrong found (Some at) = Err (bad_index at)

abbrev pub judged : ℕ → List Constant × List ℕ → Reading Pool
judged at found = unless_wrong found (wrong_at (pool_of found.0) at found.0)

-- the constants behind their count, and then their targets
abbrev pub pool_behind_count : ℕ → ℕ → ℕ × List ℕ → Reading Pool
pool_behind_count end at count =
    if count.0 == 0 then Err (bad_index at)
    else constants_at end false (count.0 - 1) count.1 >>= judged (place end count.1)

-- the pool at the front of bytes that go on to the end of the file, or the first bad place
unfoldable pub pool_at : ℕ → List ℕ → Reading Pool
pool_at end bytes = or_cut (place end bytes) (number_at w16 bytes) >>= pool_behind_count end (place end bytes)

-- Constants that are good by themselves stand before a place, and behind the count, if it isn't the count's own. Each Long
-- and Double among them has its Second, and with the count's own number they are fewer than the count.
pub record IsBehind (end : ℕ) (bytes : List ℕ) (at count : ℕ) (good : List Constant) (rest : List ℕ) : Type 0 where
  pub spelled : bytes ≡ to_be_bytes w16 count ++ flat_map spelling.constant good ++ rest
  pub fit : AllByRecursion IsConstant good
  pub seconds : has_seconds false good ≡ true
  pub few : length good + 1 < count
  pub here : at ≡ place end rest

abbrev pub OnlyGoodBefore : ℕ → List ℕ → ℕ → Type 0
OnlyGoodBefore end bytes at =
    (at ≡ place end bytes) ⊎ ((count : ℕ) × (good : List Constant) × (rest : List ℕ) × IsBehind end bytes at count good rest)

-- All constants are read, and the first of them with a wrong target stands at a place. Those before it lead where they
-- may.
pub record IsFirstWrong (end : ℕ) (bytes : List ℕ) (at : ℕ) (good : List Constant) (bad : Constant) (more : List Constant) (rest : List ℕ) (pool : Pool) : Type 0 where
  pub constants : pool.constants ≡ good ++ bad ∷ more
  pub spelled : bytes ≡ spelling.pool pool ++ rest
  pub fit : AllByRecursion IsConstant pool.constants
  pub led : AllByRecursion (λ constant. has_targets pool constant ≡ true) good
  pub wrong : has_targets pool bad ≡ false
  pub here : at ≡ place end (flat_map spelling.constant (bad ∷ more) ++ rest)

-- A wrong index in a pool is the count's, which is 0, or one of the first constant that leads elsewhere.
abbrev pub IsWrongAt : ℕ → List ℕ → ℕ → Type 0
IsWrongAt end bytes at =
    ((at ≡ place end bytes) × ((rest : List ℕ) × (bytes ≡ to_be_bytes w16 0 ++ rest)))
    ⊎ ((good : List Constant) × (bad : Constant) × (more : List Constant) × (rest : List ℕ) × (pool : Pool) × IsFirstWrong end bytes at good bad more rest pool)
