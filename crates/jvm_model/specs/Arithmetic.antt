-- What the plain instructions give for what they take (JVMS 6.5).
use Rattle.std.specs.Prelude.{ℕ, ◌/◌, ◌%◌, ◌^◌, ℤ, pos, negsuc, int_lt, int_rem, List, [], ◌∷◌, Option, Some, option_map, option_and_then, Result, Ok, Err, if◌then◌else◌}
use Rattle.std.specs.Ordering.{int_eq}
use Rattle.std.specs.Int.{Width, w8, w16, w32, w64, cast_signed, cast_unsigned, int_wrapping_add, int_wrapping_sub, int_wrapping_mul, int_wrapping_div, int_wrapping_neg, int_bit_and, int_bit_or, int_bit_xor, int_shl, int_shr}
use Rattle.jvm_tables.specs.declared.instruction.ValueKind.{ValueKind}
use Rattle.jvm_tables.specs.declared.instruction.ValueKind.TheVariants.{Int, Long}
use Rattle.jvm_heap.specs.Operands.{Operands, Values, all_taken, all_given}
use Rattle.native_model.specs.Numbers.{narrowed}
use Rattle.native_model.specs.Thrown.{Thrown, division_by_zero}
use Rattle.jvm_model.specs.declared.action.Plain.{Plain}
use Rattle.jvm_model.specs.declared.action.Plain.TheVariants as plains

-- the kinds that an instruction takes, the first on top
abbrev pub takes : Plain → List ValueKind
takes plains.AddInt = Int ∷ Int ∷ []
takes plains.AddLong = Long ∷ Long ∷ []
takes plains.SubtractInt = Int ∷ Int ∷ []
takes plains.SubtractLong = Long ∷ Long ∷ []
takes plains.MultiplyInt = Int ∷ Int ∷ []
takes plains.MultiplyLong = Long ∷ Long ∷ []
takes plains.DivideInt = Int ∷ Int ∷ []
takes plains.DivideLong = Long ∷ Long ∷ []
takes plains.RemainderInt = Int ∷ Int ∷ []
takes plains.RemainderLong = Long ∷ Long ∷ []
takes plains.NegateInt = Int ∷ []
takes plains.NegateLong = Long ∷ []
takes plains.ShiftLeftInt = Int ∷ Int ∷ []
takes plains.ShiftLeftLong = Int ∷ Long ∷ []
takes plains.ShiftRightInt = Int ∷ Int ∷ []
takes plains.ShiftRightLong = Int ∷ Long ∷ []
takes plains.UnsignedShiftRightInt = Int ∷ Int ∷ []
takes plains.UnsignedShiftRightLong = Int ∷ Long ∷ []
takes plains.AndInt = Int ∷ Int ∷ []
takes plains.AndLong = Long ∷ Long ∷ []
takes plains.OrInt = Int ∷ Int ∷ []
takes plains.OrLong = Long ∷ Long ∷ []
takes plains.XorInt = Int ∷ Int ∷ []
takes plains.XorLong = Long ∷ Long ∷ []
takes plains.IntToLong = Int ∷ []
takes plains.LongToInt = Long ∷ []
takes plains.IntToByte = Int ∷ []
takes plains.IntToChar = Int ∷ []
takes plains.IntToShort = Int ∷ []
takes plains.CompareLong = Long ∷ Long ∷ []

abbrev pub gives : Plain → List ValueKind
gives plains.AddInt = Int ∷ []
gives plains.AddLong = Long ∷ []
gives plains.SubtractInt = Int ∷ []
gives plains.SubtractLong = Long ∷ []
gives plains.MultiplyInt = Int ∷ []
gives plains.MultiplyLong = Long ∷ []
gives plains.DivideInt = Int ∷ []
gives plains.DivideLong = Long ∷ []
gives plains.RemainderInt = Int ∷ []
gives plains.RemainderLong = Long ∷ []
gives plains.NegateInt = Int ∷ []
gives plains.NegateLong = Long ∷ []
gives plains.ShiftLeftInt = Int ∷ []
gives plains.ShiftLeftLong = Long ∷ []
gives plains.ShiftRightInt = Int ∷ []
gives plains.ShiftRightLong = Long ∷ []
gives plains.UnsignedShiftRightInt = Int ∷ []
gives plains.UnsignedShiftRightLong = Long ∷ []
gives plains.AndInt = Int ∷ []
gives plains.AndLong = Long ∷ []
gives plains.OrInt = Int ∷ []
gives plains.OrLong = Long ∷ []
gives plains.XorInt = Int ∷ []
gives plains.XorLong = Long ∷ []
gives plains.IntToLong = Long ∷ []
gives plains.LongToInt = Int ∷ []
gives plains.IntToByte = Int ∷ []
gives plains.IntToChar = Int ∷ []
gives plains.IntToShort = Int ∷ []
gives plains.CompareLong = Int ∷ []

-- -1, 0 or 1
abbrev pub compared : ℤ → ℤ → ℤ
compared a b = if int_lt a b then negsuc 0 else if int_eq a b then pos 0 else pos 1

-- the count of a shift: the low 5 bits for an int, the low 6 for a long
abbrev pub shift_count : ℕ → ℤ → ℕ
shift_count bits n = cast_unsigned w32 n % bits

-- to the right with zeros
abbrev pub unsigned_shifted : Width → ℤ → ℕ → ℤ
unsigned_shifted w n count = cast_signed w (cast_unsigned w n / 2 ^ count)

abbrev pub of_int : ℤ → Result (Values (Int ∷ [])) Thrown
of_int n = Ok (n, tt)

abbrev pub of_long : ℤ → Result (Values (Long ∷ [])) Thrown
of_long n = Ok (n, tt)

abbrev pub divided_int : ℤ → ℤ → Result (Values (Int ∷ [])) Thrown
divided_int a b = if int_eq b (pos 0) then Err division_by_zero else of_int (int_wrapping_div w32 a b)

abbrev pub divided_long : ℤ → ℤ → Result (Values (Long ∷ [])) Thrown
divided_long a b = if int_eq b (pos 0) then Err division_by_zero else of_long (int_wrapping_div w64 a b)

-- the remainder has the sign of the dividend
abbrev pub remainder_int : ℤ → ℤ → Result (Values (Int ∷ [])) Thrown
remainder_int a b = if int_eq b (pos 0) then Err division_by_zero else of_int (int_rem a b)

abbrev pub remainder_long : ℤ → ℤ → Result (Values (Long ∷ [])) Thrown
remainder_long a b = if int_eq b (pos 0) then Err division_by_zero else of_long (int_rem a b)

-- what it gives for the values that it takes, the second operand first, or what it throws
abbrev pub value : (op : Plain) → Values (takes op) → Result (Values (gives op)) Thrown
value plains.AddInt v = of_int (int_wrapping_add w32 v.1.0 v.0)
value plains.AddLong v = of_long (int_wrapping_add w64 v.1.0 v.0)
value plains.SubtractInt v = of_int (int_wrapping_sub w32 v.1.0 v.0)
value plains.SubtractLong v = of_long (int_wrapping_sub w64 v.1.0 v.0)
value plains.MultiplyInt v = of_int (int_wrapping_mul w32 v.1.0 v.0)
value plains.MultiplyLong v = of_long (int_wrapping_mul w64 v.1.0 v.0)
value plains.DivideInt v = divided_int v.1.0 v.0
value plains.DivideLong v = divided_long v.1.0 v.0
value plains.RemainderInt v = remainder_int v.1.0 v.0
value plains.RemainderLong v = remainder_long v.1.0 v.0
value plains.NegateInt v = of_int (int_wrapping_neg w32 v.0)
value plains.NegateLong v = of_long (int_wrapping_neg w64 v.0)
value plains.ShiftLeftInt v = of_int (int_shl w32 v.1.0 (shift_count 32 v.0))
value plains.ShiftLeftLong v = of_long (int_shl w64 v.1.0 (shift_count 64 v.0))
value plains.ShiftRightInt v = of_int (int_shr v.1.0 (shift_count 32 v.0))
value plains.ShiftRightLong v = of_long (int_shr v.1.0 (shift_count 64 v.0))
value plains.UnsignedShiftRightInt v = of_int (unsigned_shifted w32 v.1.0 (shift_count 32 v.0))
value plains.UnsignedShiftRightLong v = of_long (unsigned_shifted w64 v.1.0 (shift_count 64 v.0))
value plains.AndInt v = of_int (int_bit_and w32 v.1.0 v.0)
value plains.AndLong v = of_long (int_bit_and w64 v.1.0 v.0)
value plains.OrInt v = of_int (int_bit_or w32 v.1.0 v.0)
value plains.OrLong v = of_long (int_bit_or w64 v.1.0 v.0)
value plains.XorInt v = of_int (int_bit_xor w32 v.1.0 v.0)
value plains.XorLong v = of_long (int_bit_xor w64 v.1.0 v.0)
value plains.IntToLong v = of_long v.0
value plains.LongToInt v = of_int (narrowed v.0)
value plains.IntToByte v = of_int (cast_signed w8 (cast_unsigned w32 v.0 % 2 ^ 8))
value plains.IntToChar v = of_int (pos (cast_unsigned w32 v.0 % 2 ^ 16))
value plains.IntToShort v = of_int (cast_signed w16 (cast_unsigned w32 v.0 % 2 ^ 16))
value plains.CompareLong v = of_int (compared v.1.0 v.0)

-- what an instruction does to the operands of its frame, or what it throws
pub data Effect : Type 0 where
  leaves : Operands → Effect
  raises : Thrown → Operands → Effect

unfoldable pub effect_of : (kinds : List ValueKind) → Result (Values kinds) Thrown → Operands → Option Effect
effect_of kinds (Ok v) o = option_map leaves (all_given kinds v o)
effect_of kinds (Err t) o = Some (raises t o)

-- None where it finds no values to take, or no room
unfoldable pub plain : Plain → Operands → Option Effect
plain op o = option_and_then (λ found. effect_of (gives op) (value op found.0) found.1) (all_taken (takes op) o)
