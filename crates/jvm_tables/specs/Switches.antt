-- Numbers in the code, and the switches (JVMS 6.5, tableswitch and lookupswitch).
use Rattle.std.specs.Prelude.{ℕ, zero, suc, ◌+◌, ◌-◌, ◌*◌, ◌%◌, Bool, true, false, ◌&&◌, nat_lt, if◌then◌else◌, List, [], ◌∷◌, length, slice_index, Result, Ok, Err, ℤ, pos, ◌+ℤ◌, ◌-ℤ◌, int_lt, unsigned_abs, ◌^◌, ◌≤◌, ◌≡◌}
use Rattle.std.specs.Ordering.{int_eq}
use Rattle.std.specs.Int.{w16, w32, from_be_bytes, cast_signed, cast_unsigned}
use Rattle.jvm_tables.specs.declared.code.CodeFault.{CodeFault}
use Rattle.jvm_tables.specs.declared.code.CodeFault.TheVariants.{CutShort, BadOperand}
use Rattle.jvm_tables.specs.declared.code.Instr.{Instr}
use Rattle.jvm_tables.specs.declared.instruction.Form.{Form}
use Rattle.jvm_tables.specs.declared.instruction.Form.TheVariants as forms
use Rattle.jvm_tables.specs.declared.instruction.OpRow.{OpRow}

infixl 10 ◌>>=◌
abbrev pub ◌>>=◌ : {A B : Type 0} → Result A CodeFault → (A → Result B CodeFault) → Result B CodeFault
(Ok x) >>= f = f x
(Err fault) >>= f = Err fault

-- The number of one, two or four bytes at a place of the operands, big-endian.
abbrev pub byte_at : List ℕ → ℕ → Result ℕ CodeFault
byte_at bytes at = if nat_lt at (length bytes) then Ok (slice_index bytes at) else Err CutShort

abbrev pub short_at : List ℕ → ℕ → Result ℕ CodeFault
short_at bytes at =
    if nat_lt (at + 1) (length bytes)
    then Ok (from_be_bytes w16 (slice_index bytes at ∷ slice_index bytes (at + 1) ∷ []))
    else Err CutShort

unfoldable pub word : List ℕ → ℕ → ℤ
word bytes at =
    cast_signed w32 (from_be_bytes w32 (slice_index bytes at ∷ slice_index bytes (at + 1) ∷ slice_index bytes (at + 2) ∷ slice_index bytes (at + 3) ∷ []))

abbrev pub word_at : List ℕ → ℕ → Result ℤ CodeFault
word_at bytes at = if nat_lt (at + 3) (length bytes) then Ok (word bytes at) else Err CutShort

-- The bytes between the opcode of a switch and its default, which stands at a multiple of four.
abbrev pub padding : ℕ → ℕ
padding pc = 3 - pc % 4

abbrev pub switch_instr : ℕ → OpRow → ℕ → ℤ → Instr
switch_instr pc row length default =
    record { pc = pc; op = row.opcode; wide = false; length = length; first = default; second = pos 0 }

-- the keys of a tableswitch from its lowest on, each with its offset
abbrev pub table_pairs : ℕ → ℤ → ℕ → List ℕ → List (ℤ × ℤ)
table_pairs zero low at bytes = []
table_pairs (suc n) low at bytes = (low, word bytes at) ∷ table_pairs n (low +ℤ pos 1) (at + 4) bytes

-- the pairs of a lookupswitch, key and offset
abbrev pub lookup_pairs : ℕ → ℕ → List ℕ → List (ℤ × ℤ)
lookup_pairs zero at bytes = []
lookup_pairs (suc n) at bytes = (word bytes at, word bytes (at + 4)) ∷ lookup_pairs n (at + 8) bytes

abbrev pub keys_rise : List (ℤ × ℤ) → Bool
keys_rise [] = true
keys_rise (p ∷ []) = true
keys_rise (p ∷ q ∷ pairs) = int_lt p.0 q.0 && keys_rise (q ∷ pairs)

-- the bytes from the padding on: the default, the two bounds, and an offset for each key between them
abbrev pub table_size : ℕ → ℤ → ℤ → ℕ
table_size pc low high = padding pc + 12 + 4 * (unsigned_abs (high -ℤ low) + 1)

unfoldable pub table_switch : ℕ → OpRow → List ℕ → Result Instr CodeFault
table_switch pc row bytes = do
  default ← word_at bytes (padding pc)
  low ← word_at bytes (padding pc + 4)
  high ← word_at bytes (padding pc + 8)
  if int_lt high low then Err BadOperand
      else if nat_lt (length bytes) (table_size pc low high) then Err CutShort
      else Ok (switch_instr pc row (1 + table_size pc low high) default)

-- the bytes from the padding on: the default, the number of pairs, and the pairs
abbrev pub lookup_size : ℕ → ℕ → ℕ
lookup_size pc count = padding pc + 8 + 8 * count

-- the keys of the pairs are in rising order
unfoldable pub lookup_switch : ℕ → OpRow → List ℕ → Result Instr CodeFault
lookup_switch pc row bytes = do
  default ← word_at bytes (padding pc)
  count ← word_at bytes (padding pc + 4)
  if int_lt count (pos 0) then Err BadOperand
      else if nat_lt (length bytes) (lookup_size pc (unsigned_abs count)) then Err CutShort
      else if keys_rise (lookup_pairs (unsigned_abs count) (padding pc + 8) bytes)
      then Ok (switch_instr pc row (1 + lookup_size pc (unsigned_abs count)) default)
      else Err BadOperand

-- The pairs of key and offset of a switch at pc, of the bytes behind its opcode.
unfoldable pub table_switch_pairs : ℕ → List ℕ → List (ℤ × ℤ)
table_switch_pairs pc bytes =
    let low : ℤ = word bytes (padding pc + 4) in
    let high : ℤ = word bytes (padding pc + 8) in
    table_pairs (unsigned_abs (high -ℤ low) + 1) low (padding pc + 12) bytes

unfoldable pub lookup_switch_pairs : ℕ → List ℕ → List (ℤ × ℤ)
lookup_switch_pairs pc bytes = lookup_pairs (unsigned_abs (word bytes (padding pc + 4))) (padding pc + 8) bytes

abbrev pub pairs_of : Form → ℕ → List ℕ → List (ℤ × ℤ)
pairs_of forms.TableSwitch pc bytes = table_switch_pairs pc bytes
pairs_of forms.LookupSwitch pc bytes = lookup_switch_pairs pc bytes
pairs_of _ pc bytes = []

-- the offset of a key, else the default
abbrev pub chosen : ℤ → ℤ → List (ℤ × ℤ) → ℤ
chosen default key [] = default
chosen default key (p ∷ pairs) = if int_eq p.0 key then p.1 else chosen default key pairs

-- where an offset leads to, modulo 2 ^ 32
abbrev pub target : ℕ → ℤ → ℕ
target pc offset = (pc + cast_unsigned w32 offset) % 2 ^ 32

-- the bytes behind the opcode hold a whole tableswitch
pub record IsTable (pc : ℕ) (bytes : List ℕ) : Type 0 where
  pub header : padding pc + 12 ≤ length bytes
  pub bounds : int_lt (word bytes (padding pc + 8)) (word bytes (padding pc + 4)) ≡ false
  pub whole : table_size pc (word bytes (padding pc + 4)) (word bytes (padding pc + 8)) ≤ length bytes

-- the bytes behind the opcode hold a whole lookupswitch
pub record IsLookup (pc : ℕ) (bytes : List ℕ) : Type 0 where
  pub header : padding pc + 8 ≤ length bytes
  pub whole : lookup_size pc (unsigned_abs (word bytes (padding pc + 4))) ≤ length bytes
  pub rising : keys_rise (lookup_switch_pairs pc bytes) ≡ true
