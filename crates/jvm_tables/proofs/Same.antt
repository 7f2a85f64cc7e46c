-- An instruction is decoded alike from bytes that begin with its own.
use Rattle.std.proofs.Common.{◌≡◌, ◌≢◌, ℕ, suc, zero, ◌+◌, ◌-◌, ◌*◌, ◌<◌, ◌≤◌, List, ◌++◌, true, false, Some, Result, Ok, Err, refl, sym, ◌∙◌, ap, arith, length, drop, take, nat_lt, pos, int_lt, unsigned_abs, length-append, inl, inr, IfOk}
use Rattle.std.proofs.lemmas.Bool.{le-ltb, lt-ltb}
use Rattle.std.proofs.lemmas.List.{get_or-take, get_or_append_left, length-drop, length-take}
use Rattle.jvm_tables.specs.declared.code.CodeFault.{CodeFault}
use Rattle.jvm_tables.specs.declared.code.Instr.{Instr}
use Rattle.jvm_tables.specs.declared.instruction.Form.{Form}
use Rattle.jvm_tables.specs.declared.instruction.Form.TheVariants as forms
use Rattle.jvm_tables.specs.declared.instruction.OpRow.{OpRow}
use Rattle.jvm_tables.specs.Agreement.{length_of}
use Rattle.jvm_tables.specs.Decoding.{by_form, interface_call, call_site, element_type, dimensions, increment, wide_local, wide_increment, wide_form, widened, wide, known, decoding}
use Rattle.jvm_tables.specs.Opcodes.{row_of}
use Rattle.jvm_tables.specs.Switches.{◌>>=◌, byte_at, short_at, word, word_at, padding, lookup_pairs, table_size, lookup_size, table_switch, lookup_switch, lookup_switch_pairs, switch_instr, IsTable, IsLookup}
use Rattle.jvm_tables.proofs.Agreed.{length_of_row}
use Rattle.jvm_tables.proofs.Decoded.{Decoded, decoded, sure_known, Narrow, Tabled, Looked, sure_table, sure_lookup, narrow_form, wide_or_narrow}
use Rattle.jvm_tables.proofs.Readings.{Sure, sure_ok, sure_bind, sure_short, Keeps, keeps_bind, Prefix, prefix_less, prefix_rest, keeps_byte, keeps_short, keeps_word, same_word}

keeps_same : {A : Type 0} (r : Result A CodeFault) → Keeps r r
keeps_same r x e = e

gave : {A B : Type 0} (r : Result A CodeFault) (f : A → Result B CodeFault) (y : B) → (r >>= f) ≡ Ok y → (x : A) × (r ≡ Ok x) × (f x ≡ Ok y)
gave (Ok x) f y e = (x, refl, e)
gave (Err z) f y e = cc

keeps_increment : (pc : ℕ) (row : OpRow) (a b : List ℕ) → Prefix 2 a b → Keeps (increment pc row a) (increment pc row b)
unfolding increment
keeps_increment pc row a b p =
    keeps_bind (byte_at a 0) (byte_at b 0) _ _ (keeps_byte 2 a b 0 p (omega arith)) (λ n.
    keeps_bind (byte_at a 1) (byte_at b 1) _ _ (keeps_byte 2 a b 1 p (omega arith)) (λ by. keeps_same _))

keeps_interface : (pc : ℕ) (row : OpRow) (a b : List ℕ) → Prefix 4 a b → Keeps (interface_call pc row a) (interface_call pc row b)
unfolding interface_call
keeps_interface pc row a b p =
    keeps_bind (short_at a 0) (short_at b 0) _ _ (keeps_short 4 a b 0 p (omega arith)) (λ n.
    keeps_bind (byte_at a 2) (byte_at b 2) _ _ (keeps_byte 4 a b 2 p (omega arith)) (λ count.
    keeps_bind (byte_at a 3) (byte_at b 3) _ _ (keeps_byte 4 a b 3 p (omega arith)) (λ end. keeps_same _)))

keeps_site : (pc : ℕ) (row : OpRow) (a b : List ℕ) → Prefix 4 a b → Keeps (call_site pc row a) (call_site pc row b)
unfolding call_site
keeps_site pc row a b p =
    keeps_bind (short_at a 0) (short_at b 0) _ _ (keeps_short 4 a b 0 p (omega arith)) (λ n.
    keeps_bind (short_at a 2) (short_at b 2) _ _ (keeps_short 4 a b 2 p (omega arith)) (λ end. keeps_same _))

keeps_element : (pc : ℕ) (row : OpRow) (a b : List ℕ) → Prefix 1 a b → Keeps (element_type pc row a) (element_type pc row b)
unfolding element_type
keeps_element pc row a b p =
    keeps_bind (byte_at a 0) (byte_at b 0) _ _ (keeps_byte 1 a b 0 p (omega arith)) (λ n. keeps_same _)

keeps_dimensions : (pc : ℕ) (row : OpRow) (a b : List ℕ) → Prefix 3 a b → Keeps (dimensions pc row a) (dimensions pc row b)
unfolding dimensions
keeps_dimensions pc row a b p =
    keeps_bind (short_at a 0) (short_at b 0) _ _ (keeps_short 3 a b 0 p (omega arith)) (λ n.
    keeps_bind (byte_at a 2) (byte_at b 2) _ _ (keeps_byte 3 a b 2 p (omega arith)) (λ count. keeps_same _))

one : {A : Type 0} (a b : List ℕ) (f : ℕ → Result A CodeFault) → Prefix 1 a b → Keeps (byte_at a 0 >>= f) (byte_at b 0 >>= f)
one a b f p = keeps_bind (byte_at a 0) (byte_at b 0) f f (keeps_byte 1 a b 0 p (omega arith)) (λ n. keeps_same _)

two : {A : Type 0} (a b : List ℕ) (f : ℕ → Result A CodeFault) → Prefix 2 a b → Keeps (short_at a 0 >>= f) (short_at b 0 >>= f)
two a b f p = keeps_bind (short_at a 0) (short_at b 0) f f (keeps_short 2 a b 0 p (omega arith)) (λ n. keeps_same _)

keeps_form : (form : Form) (pc : ℕ) (row : OpRow) (a b : List ℕ) → 0 < length_of form → Prefix (length_of form - 1) a b → Keeps (by_form form pc row a) (by_form form pc row b)
keeps_form forms.Bare pc row a b h p = keeps_same _
keeps_form forms.Byte pc row a b h p = one a b _ p
keeps_form forms.Short pc row a b h p = two a b _ p
keeps_form forms.ByteConstant pc row a b h p = one a b _ p
keeps_form forms.Constant pc row a b h p = two a b _ p
keeps_form forms.Local pc row a b h p = one a b _ p
keeps_form forms.LocalIncrement pc row a b h p = keeps_increment pc row a b p
keeps_form forms.Branch pc row a b h p = two a b _ p
keeps_form forms.WideBranch pc row a b h p =
    keeps_bind (word_at a 0) (word_at b 0) _ _ (keeps_word 4 a b 0 p (omega arith)) (λ z. keeps_same _)
keeps_form forms.TableSwitch pc row a b h p = absurd (omega arith)
keeps_form forms.LookupSwitch pc row a b h p = absurd (omega arith)
keeps_form forms.InterfaceCall pc row a b h p = keeps_interface pc row a b p
keeps_form forms.CallSite pc row a b h p = keeps_site pc row a b p
keeps_form forms.ElementType pc row a b h p = keeps_element pc row a b p
keeps_form forms.Dimensions pc row a b h p = keeps_dimensions pc row a b p
keeps_form forms.Wide pc row a b h p = absurd (omega arith)

table_again : (pc : ℕ) (row : OpRow) (b : List ℕ) → IsTable pc b → table_switch pc row b ≡ Ok (switch_instr pc row (1 + table_size pc (word b (padding pc + 4)) (word b (padding pc + 8))) (word b (padding pc)))
unfolding table_switch
table_again pc row b t =
    let header : padding pc + 12 ≤ length b = t.header in
    let first : nat_lt (padding pc + 3) (length b) ≡ true = lt-ltb _ _ (omega arith) in
    let second : nat_lt (padding pc + 4 + 3) (length b) ≡ true = lt-ltb _ _ (omega arith) in
    let third : nat_lt (padding pc + 8 + 3) (length b) ≡ true = lt-ltb _ _ (omega arith) in
    let whole : nat_lt (length b) (table_size pc (word b (padding pc + 4)) (word b (padding pc + 8))) ≡ false = le-ltb _ _ t.whole in
    rw (first, second, third, t.bounds, whole) refl

table_same : (pc : ℕ) (row : OpRow) (a b : List ℕ) (i : Instr) → table_switch pc row a ≡ Ok i → Prefix (i.length - 1) a b → table_switch pc row b ≡ Ok i
table_same pc row a b i e p =
    let t : Tabled pc row a i = sure_table pc row a i e in
    let size : i.length ≡ 1 + table_size pc (word a (padding pc + 4)) (word a (padding pc + 8)) = ap (λ (x : Instr). x.length) t.same in
    let enough : i.length - 1 ≤ length b = p.enough in
    let default : word a (padding pc) ≡ word b (padding pc) = same_word (i.length - 1) a b (padding pc) p (omega arith) in
    let low : word a (padding pc + 4) ≡ word b (padding pc + 4) = same_word (i.length - 1) a b (padding pc + 4) p (omega arith) in
    let high : word a (padding pc + 8) ≡ word b (padding pc + 8) = same_word (i.length - 1) a b (padding pc + 8) p (omega arith) in
    let whole : IsTable pc b = record {
      header = omega arith;
      bounds = rw (← low, ← high) t.table.bounds;
      whole = rw (← low, ← high) (omega arith);
    } in
    table_again pc row b whole ∙ rw (← low, ← high, ← default) (ap Ok (sym t.same))

pairs_same : (n at m : ℕ) (a b : List ℕ) → Prefix m a b → at + 8 * n ≤ m → lookup_pairs n at a ≡ lookup_pairs n at b
pairs_same zero at m a b p h = refl
pairs_same (suc n) at m a b p h =
    let key : word a at ≡ word b at = same_word m a b at p (omega arith) in
    let offset : word a (at + 4) ≡ word b (at + 4) = same_word m a b (at + 4) p (omega arith) in
    let rest : lookup_pairs n (at + 8) a ≡ lookup_pairs n (at + 8) b = pairs_same n (at + 8) m a b p (omega arith) in
    rw (key, offset, rest) refl

lookup_again : (pc : ℕ) (row : OpRow) (b : List ℕ) → IsLookup pc b → int_lt (word b (padding pc + 4)) (pos 0) ≡ false → lookup_switch pc row b ≡ Ok (switch_instr pc row (1 + lookup_size pc (unsigned_abs (word b (padding pc + 4)))) (word b (padding pc)))
unfolding lookup_switch lookup_switch_pairs
lookup_again pc row b t some =
    let header : padding pc + 8 ≤ length b = t.header in
    let first : nat_lt (padding pc + 3) (length b) ≡ true = lt-ltb _ _ (omega arith) in
    let second : nat_lt (padding pc + 4 + 3) (length b) ≡ true = lt-ltb _ _ (omega arith) in
    let whole : nat_lt (length b) (lookup_size pc (unsigned_abs (word b (padding pc + 4)))) ≡ false = le-ltb _ _ t.whole in
    rw (first, second, some, whole, t.rising) refl

lookup_same : (pc : ℕ) (row : OpRow) (a b : List ℕ) (i : Instr) → lookup_switch pc row a ≡ Ok i → Prefix (i.length - 1) a b → lookup_switch pc row b ≡ Ok i
unfolding lookup_switch_pairs
lookup_same pc row a b i e p =
    let t : Looked pc row a i = sure_lookup pc row a i e in
    let size : i.length ≡ 1 + lookup_size pc (unsigned_abs (word a (padding pc + 4))) = ap (λ (x : Instr). x.length) t.same in
    let enough : i.length - 1 ≤ length b = p.enough in
    let default : word a (padding pc) ≡ word b (padding pc) = same_word (i.length - 1) a b (padding pc) p (omega arith) in
    let count : word a (padding pc + 4) ≡ word b (padding pc + 4) = same_word (i.length - 1) a b (padding pc + 4) p (omega arith) in
    let pairs : lookup_pairs (unsigned_abs (word a (padding pc + 4))) (padding pc + 8) a ≡ lookup_pairs (unsigned_abs (word a (padding pc + 4))) (padding pc + 8) b = pairs_same _ _ (i.length - 1) a b p (omega arith) in
    let whole : IsLookup pc b = record {
      header = omega arith;
      whole = rw (← count) (omega arith);
      rising = rw (← count, ← pairs) t.lookup.rising;
    } in
    lookup_again pc row b whole (rw (← count) t.counted) ∙ rw (← count, ← default) (ap Ok (sym t.same))

local_size : (pc : ℕ) (row : OpRow) (a : List ℕ) → Sure (wide_local pc row a) (λ i. i.length ≡ 4)
unfolding wide_local
local_size pc row a = sure_bind (short_at a 0) _ _ _ (sure_short a 0) (λ n h. sure_ok _ _ refl)

increment_size : (pc : ℕ) (row : OpRow) (a : List ℕ) → Sure (wide_increment pc row a) (λ i. i.length ≡ 6)
unfolding wide_increment
increment_size pc row a =
    sure_bind (short_at a 0) _ _ _ (sure_short a 0) (λ n h. sure_bind (short_at a 2) _ _ _ (sure_short a 2) (λ by k. sure_ok _ _ refl))

local_same : (pc : ℕ) (row : OpRow) (a b : List ℕ) (i : Instr) → wide_local pc row a ≡ Ok i → Prefix (i.length - 2) a b → wide_local pc row b ≡ Ok i
unfolding wide_local
local_same pc row a b i e p =
    let size : i.length ≡ 4 = local_size pc row a i e in
    two a b _ (prefix_less 2 (i.length - 2) a b p (omega arith)) i e

increment_same : (pc : ℕ) (row : OpRow) (a b : List ℕ) (i : Instr) → wide_increment pc row a ≡ Ok i → Prefix (i.length - 2) a b → wide_increment pc row b ≡ Ok i
unfolding wide_increment
increment_same pc row a b i e p =
    let size : i.length ≡ 6 = increment_size pc row a i e in
    let four : Prefix 4 a b = prefix_less 4 (i.length - 2) a b p (omega arith) in
    keeps_bind (short_at a 0) (short_at b 0) _ _ (keeps_short 4 a b 0 four (omega arith))
    (λ n. keeps_bind (short_at a 2) (short_at b 2) _ _ (keeps_short 4 a b 2 four (omega arith)) (λ by. keeps_same _)) i e

wide_form_same : (form : Form) (pc : ℕ) (row : OpRow) (a b : List ℕ) (i : Instr) → wide_form form pc row a ≡ Ok i → Prefix (i.length - 2) a b → wide_form form pc row b ≡ Ok i
wide_form_same forms.LocalIncrement pc row a b i e p = increment_same pc row a b i e p
wide_form_same _ pc row a b i e p = local_same pc row a b i e p

wide_form_size : (form : Form) (pc : ℕ) (row : OpRow) (a : List ℕ) → Sure (wide_form form pc row a) (λ i. 4 ≤ i.length)
wide_form_size forms.LocalIncrement pc row a i e = let size : i.length ≡ 6 = increment_size pc row a i e in omega arith
wide_form_size _ pc row a i e = let size : i.length ≡ 4 = local_size pc row a i e in omega arith

wide_same : (pc : ℕ) (a b : List ℕ) (i : Instr) → wide pc a ≡ Ok i → Prefix (i.length - 1) a b → wide pc b ≡ Ok i
unfolding wide
wide_same pc a b i e p =
    let first = gave (byte_at a 0) _ i e in
    let second = gave (widened (row_of first.0)) _ i first.2 in
    let size : 4 ≤ i.length = wide_form_size second.0.form pc second.0 (drop 1 a) i second.2 in
    let byte : byte_at b 0 ≡ Ok first.0 = keeps_byte (i.length - 1) a b 0 p (omega arith) first.0 first.1 in
    let rest : Prefix (i.length - 2) (drop 1 a) (drop 1 b) = prefix_less (i.length - 2) (i.length - 1 - 1) (drop 1 a) (drop 1 b) (prefix_rest (i.length - 1) a b p) (omega arith) in
    rw (byte, second.1) (wide_form_same second.0.form pc second.0 (drop 1 a) (drop 1 b) i second.2 rest)

fixed_same : (form : Form) (pc : ℕ) (row : OpRow) (a b : List ℕ) (i : Instr) → 0 < length_of form → form ≢ forms.Wide → row.length ≡ length_of form → by_form form pc row a ≡ Ok i → Prefix (i.length - 1) a b → by_form form pc row b ≡ Ok i
fixed_same form pc row a b i h n own e p =
    let narrow : Narrow pc row a i = narrow_form form pc row a own n i e in
    let size : i.length ≡ row.length = elim narrow.size [ inl s ↦ s | inr z ↦ absurd (omega arith) ] in
    keeps_form form pc row a b h (prefix_less (length_of form - 1) (i.length - 1) a b p (omega arith)) i e

form_same : (form : Form) (pc : ℕ) (row : OpRow) (a b : List ℕ) (i : Instr) → row.length ≡ length_of form → by_form form pc row a ≡ Ok i → Prefix (i.length - 1) a b → by_form form pc row b ≡ Ok i
form_same forms.TableSwitch pc row a b i own e p = table_same pc row a b i e p
form_same forms.LookupSwitch pc row a b i own e p = lookup_same pc row a b i e p
form_same forms.Wide pc row a b i own e p = wide_same pc a b i e p
form_same forms.Bare pc row a b i own e p = fixed_same forms.Bare pc row a b i (omega arith) (λ f. cc) own e p
form_same forms.Byte pc row a b i own e p = fixed_same forms.Byte pc row a b i (omega arith) (λ f. cc) own e p
form_same forms.Short pc row a b i own e p = fixed_same forms.Short pc row a b i (omega arith) (λ f. cc) own e p
form_same forms.ByteConstant pc row a b i own e p = fixed_same forms.ByteConstant pc row a b i (omega arith) (λ f. cc) own e p
form_same forms.Constant pc row a b i own e p = fixed_same forms.Constant pc row a b i (omega arith) (λ f. cc) own e p
form_same forms.Local pc row a b i own e p = fixed_same forms.Local pc row a b i (omega arith) (λ f. cc) own e p
form_same forms.LocalIncrement pc row a b i own e p = fixed_same forms.LocalIncrement pc row a b i (omega arith) (λ f. cc) own e p
form_same forms.Branch pc row a b i own e p = fixed_same forms.Branch pc row a b i (omega arith) (λ f. cc) own e p
form_same forms.WideBranch pc row a b i own e p = fixed_same forms.WideBranch pc row a b i (omega arith) (λ f. cc) own e p
form_same forms.InterfaceCall pc row a b i own e p = fixed_same forms.InterfaceCall pc row a b i (omega arith) (λ f. cc) own e p
form_same forms.CallSite pc row a b i own e p = fixed_same forms.CallSite pc row a b i (omega arith) (λ f. cc) own e p
form_same forms.ElementType pc row a b i own e p = fixed_same forms.ElementType pc row a b i (omega arith) (λ f. cc) own e p
form_same forms.Dimensions pc row a b i own e p = fixed_same forms.Dimensions pc row a b i (omega arith) (λ f. cc) own e p

decoding_same : (pc : ℕ) (a b : List ℕ) (i : Instr) → decoding pc a ≡ Ok i → 0 < i.length → Prefix i.length a b → decoding pc b ≡ Ok i
unfolding decoding
decoding_same pc a b i e h p =
    let first = gave (byte_at a 0) _ i e in
    let second = gave (known first.0 (row_of first.0)) _ i first.2 in
    let byte : byte_at b 0 ≡ Ok first.0 = keeps_byte i.length a b 0 p h first.0 first.1 in
    let found : row_of first.0 ≡ Some second.0 = (sure_known first.0 (row_of first.0) second.0 second.1).0 in
    rw (byte, second.1)
    (form_same second.0.form pc second.0 (drop 1 a) (drop 1 b) i (length_of_row first.0 second.0 found) second.2 (prefix_rest i.length a b p))

own_prefix : (n : ℕ) (a more : List ℕ) → n ≤ length a → Prefix n a (take n a ++ more)
own_prefix n a more h =
    let size : length (take n a) ≡ n = length-take n a ∙ omega arith in
    record {
      enough = omega (arith, length-append (take n a) more);
      same = λ i less. sym (get_or_append_left (take n a) more 0 i (omega arith) ∙ get_or-take n a i 0 less);
    }

-- where the instruction ends within the code, and has a length
pub ends_within : (pc : ℕ) (bytes : List ℕ) (i : Instr) → decoding pc bytes ≡ Ok i → (i.pc ≡ pc) × (0 < i.length) × (i.length ≤ length bytes)
ends_within pc bytes i e =
    let d : Decoded pc bytes i = decoded pc bytes i e in
    let some : 0 < length bytes = d.some in
    elim (wide_or_narrow pc bytes i d) [
      | inl w ↦ let within : i.length ≤ length (drop 1 bytes) + 1 = w.1.within in (w.1.place, w.1.positive, omega (arith, length-drop 1 bytes))
      | inr n ↦ let within : i.length ≤ length (drop 1 bytes) + 1 = n.1.within in (n.1.place, n.1.positive, omega (arith, length-drop 1 bytes))
    ]

pub own_bytes : (pc : ℕ) (bytes more : List ℕ) (i : Instr) → decoding pc bytes ≡ Ok i → decoding pc (take i.length bytes ++ more) ≡ Ok i
own_bytes pc bytes more i e =
    let within = ends_within pc bytes i e in
    decoding_same pc bytes (take i.length bytes ++ more) i e within.1 (own_prefix i.length bytes more within.2)

if_ok : {A : Type 0} (r : Result A CodeFault) (P : A → Type 0) → ((x : A) → r ≡ Ok x → P x) → IfOk r P
if_ok (Ok x) P h = h x refl
if_ok (Err fault) P h = tt

-- what is known of the answer of decoding
pub place_of : (pc : ℕ) (bytes : List ℕ) → IfOk (decoding pc bytes) (λ i. i.pc ≡ pc)
place_of pc bytes = if_ok (decoding pc bytes) _ (λ i e. (ends_within pc bytes i e).0)

pub length_of_it : (pc : ℕ) (bytes : List ℕ) → IfOk (decoding pc bytes) (λ i. 0 < i.length)
length_of_it pc bytes = if_ok (decoding pc bytes) _ (λ i e. (ends_within pc bytes i e).1)

pub end_of : (pc : ℕ) (code : List ℕ) → pc ≤ length code → IfOk (decoding pc (drop pc code)) (λ i. pc + i.length ≤ length code)
end_of pc code h = if_ok (decoding pc (drop pc code)) _ (λ i e. let within = (ends_within pc (drop pc code) i e).2 in omega (arith, within, length-drop pc code))
