-- What the agreement of the rows with their forms gives for the row of an opcode.
use Rattle.std.proofs.Common.{◌≡◌, ℕ, Bool, true, false, not, ◌&&◌, ◌||◌, cond, Some, refl, sym, ◌∙◌, ap, ◌⊎◌, inl, inr}
use Rattle.std.proofs.lemmas.Bool.{eqb-true}
use Rattle.jvm_tables.specs.declared.instruction.OpRow.{OpRow}
use Rattle.jvm_tables.specs.declared.opcodes.TheConstants.{OPCODES}
use Rattle.jvm_tables.specs.Agreement.{agrees, float_agrees, locals_agree, stack_agrees, flow_agrees, length_of, names_local, increments, same, are_float, touches_none}
use Rattle.jvm_tables.specs.Opcodes.{row_of, every}
use Rattle.jvm_tables.proofs.Rows.{both, row_opcode, row_passes}

all_agree : every agrees OPCODES ≡ true
all_agree = refl

row_agrees : (op : ℕ) (row : OpRow) → row_of op ≡ Some row → agrees row ≡ true
unfolding row_of
row_agrees op row h = row_passes agrees op OPCODES row all_agree h

pub opcode_of : (op : ℕ) (row : OpRow) → row_of op ≡ Some row → row.opcode ≡ op
unfolding row_of
opcode_of op row h = row_opcode op OPCODES row h

first_of_five : (a b c d e : Bool) → (a && b && c && d && e) ≡ true → a ≡ true
first_of_five a b c d e h = (both a b (both (a && b) c (both (a && b && c) d (both (a && b && c && d) e h).0).0).0).0

length_agrees : (row : OpRow) → agrees row ≡ true → row.length ≡ length_of row.form
length_agrees row h = eqb-true row.length (length_of row.form) (first_of_five _ _ _ _ _ h)

-- a row's length is that of its form
pub length_of_row : (op : ℕ) (row : OpRow) → row_of op ≡ Some row → row.length ≡ length_of row.form
length_of_row op row h = length_agrees row (row_agrees op row h)

same_true : (a b : Bool) → a ≡ true → same a b ≡ true → b ≡ true
same_true true b e h = h
same_true false b e h = cc

never : false ≡ true → ⊥
never e = cc

float_not_wide : (row : OpRow) → float_agrees row ≡ true → row.takes_wide ≡ true → ⊥
float_not_wide row h w =
    let front : (are_float row.takes && are_float row.gives && touches_none row.reads row.writes && not row.takes_wide) ≡ true = (both _ _ h).0 in
    let not_wide : not row.takes_wide ≡ true = (both _ _ front).1 in
    let not_true : not true ≡ not row.takes_wide = ap not (sym w) in
    never (not_true ∙ not_wide)

either : (a b : Bool) → (a || b) ≡ true → a ≡ true ⊎ b ≡ true
either true b h = inl refl
either false b h = inr h

plain_wide : (row : OpRow) → (locals_agree row && stack_agrees row && flow_agrees row && same row.takes_wide (names_local row.form || increments row.form) && not (are_float row.takes) && not (are_float row.gives)) ≡ true → row.takes_wide ≡ true → names_local row.form ≡ true ⊎ increments row.form ≡ true
plain_wide row h w =
    let wide : same row.takes_wide (names_local row.form || increments row.form) ≡ true = (both _ _ (both _ _ (both _ _ h).0).0).1 in
    either _ _ (same_true row.takes_wide _ w wide)

wide_agrees : (row : OpRow) → agrees row ≡ true → row.takes_wide ≡ true → names_local row.form ≡ true ⊎ increments row.form ≡ true
wide_agrees row h w =
    elim row.is_float as (λ v. cond v (float_agrees row) (locals_agree row && stack_agrees row && flow_agrees row && same row.takes_wide (names_local row.form || increments row.form) && not (are_float row.takes) && not (are_float row.gives)) ≡ true → names_local row.form ≡ true ⊎ increments row.form ≡ true)
    [ true ↦ λ e. absurd (float_not_wide row e w) | false ↦ λ e. plain_wide row e w ] (both _ _ h).1

-- `wide` goes before what has a local alone
pub wide_has_local : (op : ℕ) (row : OpRow) → row_of op ≡ Some row → row.takes_wide ≡ true → names_local row.form ≡ true ⊎ increments row.form ≡ true
wide_has_local op row h w = wide_agrees row (row_agrees op row h) w

plain_if_wide : (row : OpRow) → agrees row ≡ true → row.takes_wide ≡ true → row.is_float ≡ false
plain_if_wide row h w =
    elim row.is_float as (λ v. cond v (float_agrees row) (locals_agree row && stack_agrees row && flow_agrees row && same row.takes_wide (names_local row.form || increments row.form) && not (are_float row.takes) && not (are_float row.gives)) ≡ true → v ≡ false)
    [ true ↦ λ e. absurd (float_not_wide row e w) | false ↦ λ e. refl ] (both _ _ h).1

-- and before no float opcode
pub wide_is_plain : (op : ℕ) (row : OpRow) → row_of op ≡ Some row → row.takes_wide ≡ true → row.is_float ≡ false
wide_is_plain op row h w = plain_if_wide row (row_agrees op row h) w
