-- Reading bytes from the left, with the first fault that is met. A reader is given where the bytes end in the file, so
-- that the place of a fault follows from the bytes that are left there.
use Rattle.std.specs.Prelude.{ℕ, ◌-◌, ◌<◌, ◌^◌, Bool, true, false, List, length, take, drop, Option, Some, None, Result, Ok, Err, nat_lt, slice_index, if◌then◌else◌}
use Rattle.std.specs.Int.{Width, byte_len, from_be_bytes}

-- Why an attribute is bad (JVMS 4.7): its content is cut at a place within it, or goes on behind its last item, which
-- ends at a place within it, and ends itself at a later one; its code has this length, which code may not have; a value of
-- its annotations is too deep; it is code where none may be.
pub data Badness : Type 0 where
  cut_within : ℕ → ℕ → Badness
  goes_on : ℕ → ℕ → Badness
  bad_length : ℕ → Badness
  too_deep : Badness
  barred_code : Badness

-- A bad place, with its cause. An index behind the pool that is astray comes with the numbers that may stand there.
pub data Fault : Type 0 where
  cut_short : ℕ → Fault
  bad_tag : ℕ → ℕ → Fault
  bad_text : ℕ → Fault
  bad_index : ℕ → Fault
  astray : ℕ → (ℕ → Bool) → Fault
  bad_magic : Fault
  bad_major : ℕ → Fault
  bad_attribute : ℕ → Badness → Fault
  second_attribute : ℕ → Fault
  code_missing : ℕ → Fault
  bytes_left : ℕ → Fault

-- a file begins with its magic, and the major version stands behind it and the minor one
abbrev pub fault_place : Fault → ℕ
fault_place (cut_short at) = at
fault_place (bad_tag at tag) = at
fault_place (bad_text at) = at
fault_place (bad_index at) = at
fault_place (astray at leads) = at
fault_place bad_magic = 0
fault_place (bad_major version) = 6
fault_place (bad_attribute at why) = at
fault_place (second_attribute at) = at
fault_place (code_missing at) = at
fault_place (bytes_left at) = at

abbrev pub is_cut : Fault → Bool
is_cut (cut_short at) = true
is_cut _ = false

abbrev pub Reading : Type 0 → Type 0
Reading A = Result (A × List ℕ) Fault

infixl 10 ◌>>=◌
abbrev pub ◌>>=◌ : {A B : Type 0} → Result A Fault → (A → Result B Fault) → Result B Fault
(Ok x) >>= f = f x
(Err e) >>= f = Err e

-- the place of bytes that go on to the end
abbrev pub place : ℕ → List ℕ → ℕ
place end bytes = end - length bytes

-- the number at the front, where enough bytes are left
abbrev pub number_at : Width → List ℕ → Option (ℕ × List ℕ)
number_at w bytes =
    if nat_lt (length bytes) (byte_len w) then None
    else Some (from_be_bytes w (take (byte_len w) bytes), drop (byte_len w) bytes)

-- a cut at a place where nothing was read
abbrev pub or_cut : {A : Type 0} → ℕ → Option A → Result A Fault
or_cut at None = Err (cut_short at)
or_cut at (Some x) = Ok x

-- bytes are below 256
abbrev pub IsBytes : List ℕ → Type 0
IsBytes bytes = (i : ℕ) → slice_index bytes i < 2 ^ 8
