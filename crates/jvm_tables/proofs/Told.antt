-- Each row of the table says what its operation does.
use Rattle.std.proofs.Common.{◌≡◌, ℕ, true, false, cond, List, [], ◌∷◌, map, Option, Some, None, option_map, refl, sym, ◌∙◌, ap, subst, eqb}
use Rattle.jvm_tables.specs.declared.instruction.OpRow.{OpRow}
use Rattle.jvm_tables.specs.declared.opcodes.TheConstants.{OPCODES}
use Rattle.jvm_tables.specs.ByOperation.{EachRow, TakesAsTold, GivesAsTold, ReadsAsTold, WritesAsTold, FlowsAsTold, ThrowsAsTold, NamesAsTold, InitialisesAsTold}
use Rattle.jvm_tables.specs.Opcodes.{row_of, find_row}
use Rattle.jvm_tables.specs.Operations.{kind_read, kind_written, flow_of, may_throw, constant_of, initialises}
use Rattle.jvm_tables.specs.StackEffects.{stack_effect}

-- the row that its operation, opcode, form and number make
abbrev told : OpRow → OpRow
told row =
    record row {
      constant = constant_of row.operation;
      takes = (stack_effect row.operation).0;
      gives = (stack_effect row.operation).1;
      reads = kind_read row.operation;
      writes = kind_written row.operation;
      flow = flow_of row.operation;
      throws = may_throw row.operation;
      initialises = initialises row.operation;
    }

abbrev told_plain : OpRow → OpRow
told_plain row = cond row.is_float row (told row)

all_told : map (option_map told_plain) OPCODES ≡ OPCODES
all_told = refl

found_told : (f : OpRow → OpRow) (op : ℕ) (rows : List (Option OpRow)) (row : OpRow) → map (option_map f) rows ≡ rows → find_row op rows ≡ Some row → f row ≡ row
found_told f op [] row m h = cc
found_told f op (None ∷ rows) row m h = let rest : map (option_map f) rows ≡ rows = cc in found_told f op rows row rest h
found_told f op (Some first ∷ rows) row m h =
    let own : f first ≡ first = cc in
    let rest : map (option_map f) rows ≡ rows = cc in
    elim (eqb first.opcode op) as (λ v. cond v (Some first) (find_row op rows) ≡ Some row → f row ≡ row)
    [ true ↦ λ e. let same : first ≡ row = cc in subst (λ (r : OpRow). f r ≡ r) same own | false ↦ λ e. found_told f op rows row rest e ] h

row_told : EachRow (λ row. told row ≡ row)
unfolding row_of
row_told op row h plain =
    sym (ap (λ b. cond b row (told row)) plain) ∙ found_told told_plain op OPCODES row all_told h

pub takes : TakesAsTold
takes op row h plain = sym (ap (λ (r : OpRow). r.takes) (row_told op row h plain))

pub gives : GivesAsTold
gives op row h plain = sym (ap (λ (r : OpRow). r.gives) (row_told op row h plain))

pub reads : ReadsAsTold
reads op row h plain = sym (ap (λ (r : OpRow). r.reads) (row_told op row h plain))

pub writes : WritesAsTold
writes op row h plain = sym (ap (λ (r : OpRow). r.writes) (row_told op row h plain))

pub flows : FlowsAsTold
flows op row h plain = sym (ap (λ (r : OpRow). r.flow) (row_told op row h plain))

pub throws : ThrowsAsTold
throws op row h plain = sym (ap (λ (r : OpRow). r.throws) (row_told op row h plain))

pub names : NamesAsTold
names op row h plain = sym (ap (λ (r : OpRow). r.constant) (row_told op row h plain))

pub starts : InitialisesAsTold
starts op row h plain = sym (ap (λ (r : OpRow). r.initialises) (row_told op row h plain))
