-- What is known of an instruction that was decoded.
use Rattle.std.proofs.Common.{◌≡◌, ◌≢◌, ℕ, ◌+◌, ◌<◌, ◌≤◌, List, Bool, true, false, ◌&&◌, cond, Option, Some, None, Ok, Err, refl, sym, ◌∙◌, ap, arith, length, get_or, drop, nat_lt, nat_le, eqb, ℤ, pos, int_lt, unsigned_abs, ◌⊎◌, inl, inr, IsSomeAnd}
use Rattle.std.proofs.lemmas.Grind.{get_or_after_one}
use Rattle.std.proofs.lemmas.List.{length-drop}
use Rattle.jvm_tables.specs.declared.code.CodeFault.TheVariants.{BadOperand, CutShort, UnknownOp, FloatOp}
use Rattle.jvm_tables.specs.declared.code.Instr.{Instr}
use Rattle.jvm_tables.specs.declared.instruction.Form.{Form}
use Rattle.jvm_tables.specs.declared.instruction.Form.TheVariants as forms
use Rattle.jvm_tables.specs.declared.instruction.OpRow.{OpRow}
use Rattle.jvm_tables.specs.Agreement.{length_of, names_local, increments}
use Rattle.jvm_tables.specs.Decoding.{plain, by_form, interface_call, call_site, element_type, dimensions, increment, wide_local, wide_increment, wide_form, widened, wide, known, decoding}
use Rattle.jvm_tables.specs.Opcodes.{row_of}
use Rattle.jvm_tables.specs.Switches.{◌>>=◌, byte_at, short_at, word, word_at, padding, keys_rise, lookup_pairs, table_size, lookup_size, table_switch, lookup_switch, lookup_switch_pairs, switch_instr, IsTable, IsLookup}
use Rattle.jvm_tables.specs.Switching.{form_of}
use Rattle.jvm_tables.proofs.Agreed.{opcode_of, length_of_row, wide_has_local, wide_is_plain}
use Rattle.jvm_tables.proofs.Readings.{Sure, sure_ok, sure_err, sure_bind, sure_if, sure_byte, sure_short, sure_word}

pub not_below : (a b : ℕ) → nat_lt a b ≡ false → b ≤ a
not_below a b h = grind arith

-- an instruction of a row that is not behind `wide`, of the bytes behind its opcode
pub record Narrow (pc : ℕ) (row : OpRow) (a : List ℕ) (i : Instr) : Type 0 where
  pub place : i.pc ≡ pc
  pub narrow : i.wide ≡ false
  pub op : i.op ≡ row.opcode
  pub positive : 0 < i.length
  pub within : i.length ≤ length a + 1
  pub size : (i.length ≡ row.length) ⊎ (row.length ≡ 0)

-- a whole tableswitch
pub record Tabled (pc : ℕ) (row : OpRow) (a : List ℕ) (i : Instr) : Type 0 where
  pub table : IsTable pc a
  pub same : i ≡ switch_instr pc row (1 + table_size pc (word a (padding pc + 4)) (word a (padding pc + 8))) (word a (padding pc))

pub sure_table : (pc : ℕ) (row : OpRow) (a : List ℕ) → Sure (table_switch pc row a) (Tabled pc row a)
unfolding table_switch
sure_table pc row a =
    sure_bind (word_at a (padding pc)) _ _ _ (sure_word a (padding pc)) (λ default d.
    sure_bind (word_at a (padding pc + 4)) _ _ _ (sure_word a (padding pc + 4)) (λ low l.
    sure_bind (word_at a (padding pc + 8)) _ _ _ (sure_word a (padding pc + 8)) (λ high h.
    sure_if (int_lt high low) (Err BadOperand) _ _ (λ t. sure_err BadOperand _) (λ ordered.
    sure_if (nat_lt (length a) (table_size pc low high)) (Err CutShort) _ _ (λ t. sure_err CutShort _) (λ whole.
    sure_ok _ _ (record {
      table = record {
        header = omega (arith, h.0);
        bounds = rw (l.1, h.1) ordered;
        whole = rw (l.1, h.1) (not_below (length a) (table_size pc low high) whole);
      };
      same = rw (d.1, l.1, h.1) refl;
    }))))))

-- a whole lookupswitch
pub record Looked (pc : ℕ) (row : OpRow) (a : List ℕ) (i : Instr) : Type 0 where
  pub lookup : IsLookup pc a
  pub counted : int_lt (word a (padding pc + 4)) (pos 0) ≡ false
  pub same : i ≡ switch_instr pc row (1 + lookup_size pc (unsigned_abs (word a (padding pc + 4)))) (word a (padding pc))

pub sure_lookup : (pc : ℕ) (row : OpRow) (a : List ℕ) → Sure (lookup_switch pc row a) (Looked pc row a)
unfolding lookup_switch lookup_switch_pairs
sure_lookup pc row a =
    sure_bind (word_at a (padding pc)) _ _ _ (sure_word a (padding pc)) (λ default d.
    sure_bind (word_at a (padding pc + 4)) _ _ _ (sure_word a (padding pc + 4)) (λ count n.
    sure_if (int_lt count (pos 0)) (Err BadOperand) _ _ (λ t. sure_err BadOperand _) (λ ordered.
    sure_if (nat_lt (length a) (lookup_size pc (unsigned_abs count))) (Err CutShort) _ _ (λ t. sure_err CutShort _) (λ whole.
    sure_if (keys_rise (lookup_pairs (unsigned_abs count) (padding pc + 8) a)) _ (Err BadOperand) _
    (λ rising.
    sure_ok _ _ (record {
      lookup = record {
        header = omega (arith, n.0);
        whole = rw n.1 (not_below (length a) (lookup_size pc (unsigned_abs count)) whole);
        rising = rw n.1 rising;
      };
      counted = rw n.1 ordered;
      same = rw (d.1, n.1) refl;
    }))
    (λ f. sure_err BadOperand _)))))

plain_is : (pc : ℕ) (row : OpRow) (a : List ℕ) (first second : ℤ) (n : ℕ) → row.length ≡ 1 + n → n ≤ length a → Narrow pc row a (plain pc row first second)
plain_is pc row a first second n e h = record { place = refl; narrow = refl; op = refl; positive = omega arith; within = omega arith; size = inl refl }

one_byte : (pc : ℕ) (row : OpRow) (a : List ℕ) (first : ℕ → ℤ) → row.length ≡ 2 → Sure (byte_at a 0 >>= λ n. Ok (plain pc row (first n) (pos 0))) (Narrow pc row a)
one_byte pc row a first e =
    sure_bind (byte_at a 0) _ _ _ (sure_byte a 0) (λ n h. sure_ok _ _ (plain_is pc row a (first n) (pos 0) 1 (omega arith) (omega (arith, h.0))))

two_bytes : (pc : ℕ) (row : OpRow) (a : List ℕ) (first : ℕ → ℤ) → row.length ≡ 3 → Sure (short_at a 0 >>= λ n. Ok (plain pc row (first n) (pos 0))) (Narrow pc row a)
two_bytes pc row a first e =
    sure_bind (short_at a 0) _ _ _ (sure_short a 0) (λ n h. sure_ok _ _ (plain_is pc row a (first n) (pos 0) 2 (omega arith) (omega (arith, h))))

narrow_increment : (pc : ℕ) (row : OpRow) (a : List ℕ) → row.length ≡ 3 → Sure (increment pc row a) (Narrow pc row a)
unfolding increment
narrow_increment pc row a e =
    sure_bind (byte_at a 0) _ _ _ (sure_byte a 0) (λ n h.
    sure_bind (byte_at a 1) _ _ _ (sure_byte a 1) (λ by k. sure_ok _ _ (plain_is pc row a _ _ 2 (omega arith) (omega (arith, k.0)))))

narrow_interface : (pc : ℕ) (row : OpRow) (a : List ℕ) → row.length ≡ 5 → Sure (interface_call pc row a) (Narrow pc row a)
unfolding interface_call
narrow_interface pc row a e =
    sure_bind (short_at a 0) _ _ _ (sure_short a 0) (λ n h.
    sure_bind (byte_at a 2) _ _ _ (sure_byte a 2) (λ count k.
    sure_bind (byte_at a 3) _ _ _ (sure_byte a 3) (λ end m.
    sure_if (eqb end 0) _ (Err BadOperand) _ (λ t. sure_ok _ _ (plain_is pc row a _ _ 4 (omega arith) (omega (arith, m.0)))) (λ f. sure_err BadOperand _))))

narrow_site : (pc : ℕ) (row : OpRow) (a : List ℕ) → row.length ≡ 5 → Sure (call_site pc row a) (Narrow pc row a)
unfolding call_site
narrow_site pc row a e =
    sure_bind (short_at a 0) _ _ _ (sure_short a 0) (λ n h.
    sure_bind (short_at a 2) _ _ _ (sure_short a 2) (λ end m.
    sure_if (eqb end 0) _ (Err BadOperand) _ (λ t. sure_ok _ _ (plain_is pc row a _ _ 4 (omega arith) (omega (arith, m)))) (λ f. sure_err BadOperand _)))

narrow_element : (pc : ℕ) (row : OpRow) (a : List ℕ) → row.length ≡ 2 → Sure (element_type pc row a) (Narrow pc row a)
unfolding element_type
narrow_element pc row a e =
    sure_bind (byte_at a 0) _ _ _ (sure_byte a 0) (λ n h.
    sure_if (nat_le 4 n && nat_le n 11) _ (Err BadOperand) _ (λ t. sure_ok _ _ (plain_is pc row a _ _ 1 (omega arith) (omega (arith, h.0)))) (λ f. sure_err BadOperand _))

narrow_dimensions : (pc : ℕ) (row : OpRow) (a : List ℕ) → row.length ≡ 4 → Sure (dimensions pc row a) (Narrow pc row a)
unfolding dimensions
narrow_dimensions pc row a e =
    sure_bind (short_at a 0) _ _ _ (sure_short a 0) (λ n h.
    sure_bind (byte_at a 2) _ _ _ (sure_byte a 2) (λ count k.
    sure_if (eqb count 0) (Err BadOperand) _ _ (λ t. sure_err BadOperand _) (λ f. sure_ok _ _ (plain_is pc row a _ _ 3 (omega arith) (omega (arith, k.0))))))

narrow_table : (pc : ℕ) (row : OpRow) (a : List ℕ) → row.length ≡ 0 → Sure (table_switch pc row a) (Narrow pc row a)
narrow_table pc row a z i e =
    let t : Tabled pc row a i = sure_table pc row a i e in
    let whole = t.table.whole in
    rw t.same (record { place = refl; narrow = refl; op = refl; positive = omega arith; within = omega (arith, whole); size = inr z })

narrow_lookup : (pc : ℕ) (row : OpRow) (a : List ℕ) → row.length ≡ 0 → Sure (lookup_switch pc row a) (Narrow pc row a)
narrow_lookup pc row a z i e =
    let t : Looked pc row a i = sure_lookup pc row a i e in
    let whole = t.lookup.whole in
    rw t.same (record { place = refl; narrow = refl; op = refl; positive = omega arith; within = omega (arith, whole); size = inr z })

pub narrow_form : (form : Form) (pc : ℕ) (row : OpRow) (a : List ℕ) → row.length ≡ length_of form → form ≢ forms.Wide → Sure (by_form form pc row a) (Narrow pc row a)
narrow_form forms.Bare pc row a e n = sure_ok _ _ (plain_is pc row a _ _ 0 (omega arith) (omega arith))
narrow_form forms.Byte pc row a e n = one_byte pc row a _ e
narrow_form forms.Short pc row a e n = two_bytes pc row a _ e
narrow_form forms.ByteConstant pc row a e n = one_byte pc row a _ e
narrow_form forms.Constant pc row a e n = two_bytes pc row a _ e
narrow_form forms.Local pc row a e n = one_byte pc row a _ e
narrow_form forms.LocalIncrement pc row a e n = narrow_increment pc row a e
narrow_form forms.Branch pc row a e n = two_bytes pc row a _ e
narrow_form forms.WideBranch pc row a e n =
    sure_bind (word_at a 0) _ _ _ (sure_word a 0) (λ z h. sure_ok _ _ (plain_is pc row a z (pos 0) 4 (omega arith) (omega (arith, h.0))))
narrow_form forms.TableSwitch pc row a e n = narrow_table pc row a e
narrow_form forms.LookupSwitch pc row a e n = narrow_lookup pc row a e
narrow_form forms.InterfaceCall pc row a e n = narrow_interface pc row a e
narrow_form forms.CallSite pc row a e n = narrow_site pc row a e
narrow_form forms.ElementType pc row a e n = narrow_element pc row a e
narrow_form forms.Dimensions pc row a e n = narrow_dimensions pc row a e
narrow_form forms.Wide pc row a e n = absurd (n refl)

-- an instruction behind `wide`, of the bytes behind that
pub record Widened (pc : ℕ) (a : List ℕ) (i : Instr) : Type 0 where
  pub place : i.pc ≡ pc
  pub wide : i.wide ≡ true
  pub row : OpRow
  pub found : row_of i.op ≡ Some row
  pub takes : row.takes_wide ≡ true
  pub op : get_or a 0 0 ≡ i.op
  pub positive : 0 < i.length
  pub within : i.length ≤ length a + 1

-- the same of the bytes behind both opcodes
record Wider (pc : ℕ) (row : OpRow) (a : List ℕ) (i : Instr) : Type 0 where
  place : i.pc ≡ pc
  wide : i.wide ≡ true
  op : i.op ≡ row.opcode
  positive : 0 < i.length
  within : i.length ≤ length a + 2

wider_local : (pc : ℕ) (row : OpRow) (a : List ℕ) → Sure (wide_local pc row a) (Wider pc row a)
unfolding wide_local
wider_local pc row a =
    sure_bind (short_at a 0) _ _ _ (sure_short a 0) (λ n h.
    sure_ok _ _ (record { place = refl; wide = refl; op = refl; positive = omega arith; within = omega (arith, h) }))

wider_increment : (pc : ℕ) (row : OpRow) (a : List ℕ) → Sure (wide_increment pc row a) (Wider pc row a)
unfolding wide_increment
wider_increment pc row a =
    sure_bind (short_at a 0) _ _ _ (sure_short a 0) (λ n h.
    sure_bind (short_at a 2) _ _ _ (sure_short a 2) (λ by k.
    sure_ok _ _ (record { place = refl; wide = refl; op = refl; positive = omega arith; within = omega (arith, k) })))

wider_form : (form : Form) (pc : ℕ) (row : OpRow) (a : List ℕ) → Sure (wide_form form pc row a) (Wider pc row a)
wider_form forms.LocalIncrement pc row a = wider_increment pc row a
wider_form _ pc row a = wider_local pc row a

sure_widened : (found : Option OpRow) → Sure (widened found) (λ row. (found ≡ Some row) × (row.takes_wide ≡ true))
sure_widened None = sure_err BadOperand _
sure_widened (Some row) = sure_if row.takes_wide (Ok row) (Err BadOperand) _ (λ t. sure_ok row _ (refl, t)) (λ f. sure_err BadOperand _)

pub sure_wide : (pc : ℕ) (a : List ℕ) → Sure (wide pc a) (Widened pc a)
unfolding wide
sure_wide pc a =
    sure_bind (byte_at a 0) _ _ _ (sure_byte a 0) (λ op h.
    sure_bind (widened (row_of op)) _ _ _ (sure_widened (row_of op)) (λ row f. λ i e.
    let w : Wider pc row (drop 1 a) i = wider_form row.form pc row (drop 1 a) i e in
    let own : row.opcode ≡ op = opcode_of op row f.0 in
    let same : op ≡ i.op = sym own ∙ sym w.op in
    record {
      place = w.place;
      wide = w.wide;
      row = row;
      found = ap row_of (sym same) ∙ f.0;
      takes = f.1;
      op = h.1 ∙ same;
      positive = w.positive;
      within = omega (arith, h.0, w.within, length-drop 1 a);
    }))

-- the opcode, its row, and the instruction by the row's form
pub record Decoded (pc : ℕ) (bytes : List ℕ) (i : Instr) : Type 0 where
  pub byte : ℕ
  pub row : OpRow
  pub some : 0 < length bytes
  pub first : get_or bytes 0 0 ≡ byte
  pub found : row_of byte ≡ Some row
  pub plain : row.is_float ≡ false
  pub formed : by_form row.form pc row (drop 1 bytes) ≡ Ok i

pub sure_known : (op : ℕ) (found : Option OpRow) → Sure (known op found) (λ row. (found ≡ Some row) × (row.is_float ≡ false))
sure_known op None = sure_err (UnknownOp op) _
sure_known op (Some row) = sure_if row.is_float (Err (FloatOp op)) (Ok row) _ (λ t. sure_err (FloatOp op) _) (λ f. sure_ok row _ (refl, f))

pub decoded : (pc : ℕ) (bytes : List ℕ) → Sure (decoding pc bytes) (Decoded pc bytes)
unfolding decoding
decoded pc bytes =
    sure_bind (byte_at bytes 0) _ _ _ (sure_byte bytes 0) (λ op h.
    sure_bind (known op (row_of op)) _ _ _ (sure_known op (row_of op)) (λ row f. λ i e.
    record { byte = op; row = row; some = h.0; first = h.1; found = f.0; plain = f.1; formed = e }))

wide_or_not : (form : Form) → (form ≡ forms.Wide) ⊎ (form ≢ forms.Wide)
wide_or_not forms.Wide = inl refl
wide_or_not forms.Bare = inr (λ e. cc)
wide_or_not forms.Byte = inr (λ e. cc)
wide_or_not forms.Short = inr (λ e. cc)
wide_or_not forms.ByteConstant = inr (λ e. cc)
wide_or_not forms.Constant = inr (λ e. cc)
wide_or_not forms.Local = inr (λ e. cc)
wide_or_not forms.LocalIncrement = inr (λ e. cc)
wide_or_not forms.Branch = inr (λ e. cc)
wide_or_not forms.WideBranch = inr (λ e. cc)
wide_or_not forms.TableSwitch = inr (λ e. cc)
wide_or_not forms.LookupSwitch = inr (λ e. cc)
wide_or_not forms.InterfaceCall = inr (λ e. cc)
wide_or_not forms.CallSite = inr (λ e. cc)
wide_or_not forms.ElementType = inr (λ e. cc)
wide_or_not forms.Dimensions = inr (λ e. cc)

-- either it is behind `wide`, or it is not
pub wide_or_narrow : (pc : ℕ) (bytes : List ℕ) (i : Instr) (d : Decoded pc bytes i) → ((d.row.form ≡ forms.Wide) × Widened pc (drop 1 bytes) i) ⊎ ((d.row.form ≢ forms.Wide) × Narrow pc d.row (drop 1 bytes) i)
wide_or_narrow pc bytes i d =
    elim (wide_or_not d.row.form) [
      | inl e ↦ inl (e, sure_wide pc (drop 1 bytes) i (sym (ap (λ f. by_form f pc d.row (drop 1 bytes)) e) ∙ d.formed))
      | inr n ↦ inr (n, narrow_form d.row.form pc d.row (drop 1 bytes) (length_of_row d.byte d.row d.found) n i d.formed)
    ]

never : true ≡ false → ⊥
never e = cc

-- an instruction whose form names no local is the one of its own opcode
own_row : (pc : ℕ) (bytes : List ℕ) (i : Instr) (d : Decoded pc bytes i) (form : Form) → names_local form ≡ false → increments form ≡ false → form_of (row_of i.op) ≡ form → row_of i.op ≡ Some d.row
own_row pc bytes i d form no_local no_increment e =
    elim (wide_or_narrow pc bytes i d) [
      | inl w ↦
          let own : w.1.row.form ≡ form = sym (ap form_of w.1.found) ∙ e in
          elim (wide_has_local i.op w.1.row w.1.found w.1.takes) [
            | inl names ↦ absurd (never (sym names ∙ ap names_local own ∙ no_local))
            | inr adds ↦ absurd (never (sym adds ∙ ap increments own ∙ no_increment))
          ]
      | inr n ↦ ap row_of (n.1.op ∙ opcode_of d.byte d.row d.found) ∙ d.found
    ]

-- and is decoded by that form
pub formed_as : (pc : ℕ) (bytes : List ℕ) (i : Instr) (d : Decoded pc bytes i) (form : Form) → names_local form ≡ false → increments form ≡ false → form_of (row_of i.op) ≡ form → by_form form pc d.row (drop 1 bytes) ≡ Ok i
formed_as pc bytes i d form no_local no_increment e =
    let found : row_of i.op ≡ Some d.row = own_row pc bytes i d form no_local no_increment e in
    let own : d.row.form ≡ form = sym (ap form_of found) ∙ e in
    sym (ap (λ f. by_form f pc d.row (drop 1 bytes)) own) ∙ d.formed

-- a decoded tableswitch is whole
pub table_there : (pc : ℕ) (bytes : List ℕ) (i : Instr) → decoding pc bytes ≡ Ok i → form_of (row_of i.op) ≡ forms.TableSwitch → IsTable pc (drop 1 bytes)
table_there pc bytes i h e =
    let d : Decoded pc bytes i = decoded pc bytes i h in
    (sure_table pc d.row (drop 1 bytes) i (formed_as pc bytes i d forms.TableSwitch refl refl e)).table

-- a decoded lookupswitch is whole
pub lookup_there : (pc : ℕ) (bytes : List ℕ) (i : Instr) → decoding pc bytes ≡ Ok i → form_of (row_of i.op) ≡ forms.LookupSwitch → IsLookup pc (drop 1 bytes)
lookup_there pc bytes i h e =
    let d : Decoded pc bytes i = decoded pc bytes i h in
    (sure_lookup pc d.row (drop 1 bytes) i (formed_as pc bytes i d forms.LookupSwitch refl refl e)).lookup

-- where an instruction is decoded, there is a byte
pub byte_there : (pc : ℕ) (bytes : List ℕ) (i : Instr) → decoding pc bytes ≡ Ok i → 0 < length bytes
byte_there pc bytes i h = (decoded pc bytes i h).some

-- An instruction's opcode stands in its place and has a row, which is no float use.
pub its_row : (pc : ℕ) (bytes : List ℕ) (i : Instr) → decoding pc bytes ≡ Ok i → (get_or bytes (cond i.wide 1 0) 0 ≡ i.op) × IsSomeAnd (row_of i.op) (λ row. row.is_float ≡ false)
its_row pc bytes i e =
    let d : Decoded pc bytes i = decoded pc bytes i e in
    elim (wide_or_narrow pc bytes i d) [
      | inl w ↦
          let second : get_or bytes 1 0 ≡ i.op = sym (get_or_after_one bytes 0 0) ∙ w.1.op in
          let plain : w.1.row.is_float ≡ false = wide_is_plain i.op w.1.row w.1.found w.1.takes in
          (ap (λ b. get_or bytes (cond b 1 0) 0) w.1.wide ∙ second, rw w.1.found plain)
      | inr n ↦
          let own : i.op ≡ d.byte = n.1.op ∙ opcode_of d.byte d.row d.found in
          (ap (λ b. get_or bytes (cond b 1 0) 0) n.1.narrow ∙ d.first ∙ sym own, rw (own, d.found) d.plain)
    ]

abbrev takes_wide_of : Option OpRow → Bool
takes_wide_of None = false
takes_wide_of (Some row) = row.takes_wide

wide_form_of_it : form_of (row_of 196) ≡ forms.Wide
unfolding row_of
wide_form_of_it = refl

wide_takes_none : takes_wide_of (row_of 196) ≡ false
unfolding row_of
wide_takes_none = refl

-- No instruction that is decoded has the opcode of `wide`.
pub never_wide : (pc : ℕ) (bytes : List ℕ) (i : Instr) → decoding pc bytes ≡ Ok i → i.op ≢ 196
never_wide pc bytes i e is_wide =
    let d : Decoded pc bytes i = decoded pc bytes i e in
    elim (wide_or_narrow pc bytes i d) [
      | inl w ↦
          let yes : takes_wide_of (row_of i.op) ≡ true = ap takes_wide_of w.1.found ∙ w.1.takes in
          never (sym yes ∙ ap (λ op. takes_wide_of (row_of op)) is_wide ∙ wide_takes_none)
      | inr n ↦
          let own : i.op ≡ d.byte = n.1.op ∙ opcode_of d.byte d.row d.found in
          let form : form_of (row_of i.op) ≡ d.row.form = ap (λ op. form_of (row_of op)) own ∙ ap form_of d.found in
          n.0 (sym form ∙ ap (λ op. form_of (row_of op)) is_wide ∙ wide_form_of_it)
    ]
