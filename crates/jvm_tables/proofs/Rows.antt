-- Rows that stand at their own opcodes: the row at a place is the one that is found by it.
use Rattle.std.proofs.Common.{◌≡◌, ◌≢◌, ℕ, suc, zero, ◌+◌, ◌<◌, ◌≤◌, List, [], ◌∷◌, Bool, true, false, ◌&&◌, Option, Some, None, refl, sym, ◌∙◌, ap, subst, arith, IsTrue, eqb, length, get_or, cond}
use Rattle.std.proofs.lemmas.Bool.{eqb-true, eq-eqb}
use Rattle.jvm_tables.specs.declared.instruction.OpRow.{OpRow}
use Rattle.jvm_tables.specs.Opcodes.{find_row, stands_from, every}

pub both : (a b : Bool) → (a && b) ≡ true → (a ≡ true) × (b ≡ true)
both true b h = (refl, h)
both false b h = cc

skips : (op : ℕ) (row : OpRow) (rows : List (Option OpRow)) → row.opcode ≢ op → find_row op (Some row ∷ rows) ≡ find_row op rows
skips op row rows other =
    elim (eqb row.opcode op) as (λ v. eqb row.opcode op ≡ v → cond v (Some row) (find_row op rows) ≡ find_row op rows)
    [ true ↦ λ e. absurd (other (eqb-true row.opcode op e)) | false ↦ λ e. refl ] refl

takes : (op : ℕ) (row : OpRow) (rows : List (Option OpRow)) → row.opcode ≡ op → find_row op (Some row ∷ rows) ≡ Some row
takes op row rows same = rw (eq-eqb row.opcode op same) refl

below : (op at : ℕ) (rows : List (Option OpRow)) → op < at → stands_from at rows ≡ true → find_row op rows ≡ None
below op at [] h s = refl
below op at (None ∷ rows) h s = below op (at + 1) rows (omega arith) s
below op at (Some row ∷ rows) h s =
    let parts : (eqb row.opcode at ≡ true) × (stands_from (at + 1) rows ≡ true) = both _ _ s in
    let own : row.opcode ≡ at = eqb-true row.opcode at parts.0 in
    skips op row rows (omega arith) ∙ below op (at + 1) rows (omega arith) parts.1

past : (op at : ℕ) (rows : List (Option OpRow)) → at + length rows ≤ op → stands_from at rows ≡ true → find_row op rows ≡ None
past op at [] h s = refl
past op at (None ∷ rows) h s = past op (at + 1) rows (omega arith) s
past op at (Some row ∷ rows) h s =
    let parts : (eqb row.opcode at ≡ true) × (stands_from (at + 1) rows ≡ true) = both _ _ s in
    let own : row.opcode ≡ at = eqb-true row.opcode at parts.0 in
    skips op row rows (omega arith) ∙ past op (at + 1) rows (omega arith) parts.1

placed : (i at : ℕ) (rows : List (Option OpRow)) (d : Option OpRow) → i < length rows → stands_from at rows ≡ true → get_or rows i d ≡ find_row (at + i) rows
placed i at [] d h s = absurd (omega arith)
placed zero at (None ∷ rows) d h s = sym (rw (below (at + 0) (at + 1) rows (omega arith) s) refl)
placed zero at (Some row ∷ rows) d h s =
    let parts : (eqb row.opcode at ≡ true) × (stands_from (at + 1) rows ≡ true) = both _ _ s in
    let own : row.opcode ≡ at = eqb-true row.opcode at parts.0 in
    sym (takes (at + 0) row rows (omega arith))
placed (suc i) at (None ∷ rows) d h s =
    placed i (at + 1) rows d (omega arith) s ∙ ap (λ n. find_row n rows) (omega arith)
placed (suc i) at (Some row ∷ rows) d h s =
    let parts : (eqb row.opcode at ≡ true) × (stands_from (at + 1) rows ≡ true) = both _ _ s in
    let own : row.opcode ≡ at = eqb-true row.opcode at parts.0 in
    placed i (at + 1) rows d (omega arith) parts.1
    ∙ ap (λ n. find_row n rows) (omega arith)
    ∙ sym (skips (at + suc i) row rows (omega arith))

-- the row at a place
pub row_at : (rows : List (Option OpRow)) (op : ℕ) (d : Option OpRow) → IsTrue (stands_from 0 rows) → op < length rows → get_or rows op d ≡ find_row op rows
row_at rows op d s h = placed op 0 rows d h s ∙ ap (λ n. find_row n rows) (omega arith)

-- and past the last place there is none
pub row_past : (rows : List (Option OpRow)) (op : ℕ) → IsTrue (stands_from 0 rows) → length rows ≤ op → find_row op rows ≡ None
row_past rows op s h = past op 0 rows (omega arith) s

-- the row that is found has the opcode
pub row_opcode : (op : ℕ) (rows : List (Option OpRow)) (row : OpRow) → find_row op rows ≡ Some row → row.opcode ≡ op
row_opcode op [] row h = cc
row_opcode op (None ∷ rows) row h = row_opcode op rows row h
row_opcode op (Some first ∷ rows) row h =
    elim (eqb first.opcode op) as (λ v. eqb first.opcode op ≡ v → cond v (Some first) (find_row op rows) ≡ Some row → row.opcode ≡ op)
    [ true ↦ λ e f. let same : first ≡ row = cc in subst (λ (r : OpRow). r.opcode ≡ op) same (eqb-true first.opcode op e) | false ↦ λ e f. row_opcode op rows row f ] refl h

-- and passes what each row passes
pub row_passes : (test : OpRow → Bool) (op : ℕ) (rows : List (Option OpRow)) (row : OpRow) → every test rows ≡ true → find_row op rows ≡ Some row → test row ≡ true
row_passes test op [] row a h = cc
row_passes test op (None ∷ rows) row a h = row_passes test op rows row a h
row_passes test op (Some first ∷ rows) row a h =
    let parts : (test first ≡ true) × (every test rows ≡ true) = both _ _ a in
    elim (eqb first.opcode op) as (λ v. cond v (Some first) (find_row op rows) ≡ Some row → test row ≡ true)
    [ true ↦ λ f. let same : first ≡ row = cc in subst (λ (r : OpRow). test r ≡ true) same parts.0 | false ↦ λ f. row_passes test op rows row parts.1 f ] h
