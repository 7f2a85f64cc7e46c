-- Numbers and budgets (JVMS 6.5: iadd, idiv, irem, ishl, goto).
use Rattle.std.specs.Prelude.{◌≡◌, ℕ, pos, negsuc, [], ◌∷◌, codes, Some}
use Rattle.class_code.specs.Rows.{MethodRow, Line}
use Rattle.native_model.specs.declared.budget.Budget.TheVariants.{Instructions}
use Rattle.tree_value.specs.Values.{int}
use Rattle.jvm_model.specs.Bodies.{throws, spends}
use Rattle.body_rows.specs.Samples.{with_numbers, bare, ldc_int, main, static_method, ending, gives}

-- two ints, an operation on them, and ireturn
abbrev pub of_two : Line → Line → ℕ → MethodRow
of_two a b op = static_method main 2 0 (a ∷ b ∷ bare 4 op ∷ bare 5 0xac ∷ []) []

-- 2147483647 + 1
abbrev pub SumWraps : Type 0
SumWraps = ending 4 (of_two (ldc_int 0 2147483647) (bare 2 0x04) 0x60) ≡ gives (int (negsuc 2147483647))

-- -2147483648 / -1
abbrev pub LeastByMinusOne : Type 0
LeastByMinusOne = ending 4 (of_two (ldc_int 0 2147483648) (bare 2 0x02) 0x6c) ≡ gives (int (negsuc 2147483647))

-- 5 / 0
abbrev pub DivisionByZero : Type 0
DivisionByZero =
    ending 4 (of_two (bare 0 0x08) (bare 2 0x03) 0x6c) ≡ Some (throws (codes "java/lang/ArithmeticException") (Some (codes "/ by zero")) [])

-- -7 % 3 is -1
abbrev pub RemainderSign : Type 0
RemainderSign = ending 4 (of_two (ldc_int 0 4294967289) (bare 2 0x06) 0x70) ≡ gives (int (negsuc 0))

-- 5 << 33 is 10
abbrev pub ShiftByOneMore : Type 0
ShiftByOneMore = ending 4 (of_two (bare 0 0x08) (ldc_int 2 33) 0x78) ≡ gives (int (pos 10))

-- for (;;) {}
abbrev pub Endless : Type 0
Endless = ending 40 (static_method main 0 0 (with_numbers 0 0xa7 (pos 0 ∷ []) ∷ []) []) ≡ Some (spends Instructions [])

abbrev pub five : MethodRow
five = static_method main 1 0 (bare 0 0x08 ∷ bare 1 0xac ∷ []) []

-- two instructions with a budget of two, and of one
abbrev pub JustEnough : Type 0
JustEnough = ending 2 five ≡ gives (int (pos 5))

abbrev pub TooFew : Type 0
TooFew = ending 1 five ≡ Some (spends Instructions [])
