-- Where the keys of a switch lead.
use Rattle.std.proofs.Common.{◌≡◌, ◌≢◌, ℕ, suc, zero, ◌+◌, List, [], ◌∷◌, ◌++◌, true, refl, sym, ◌∙◌, ap, arith, ℤ, pos, ◌+ℤ◌, ◌<ℤ◌, int_lt, drop, Ok, unsigned_abs, ◌-ℤ◌}
use Rattle.std.specs.List.{AllByRecursion}
use Rattle.std.proofs.lemmas.Int.{ints}
use Rattle.jvm_tables.specs.declared.code.Instr.{Instr}
use Rattle.jvm_tables.specs.declared.instruction.Form.{Form}
use Rattle.jvm_tables.specs.declared.instruction.Form.TheVariants as forms
use Rattle.jvm_tables.specs.Agreement.{is_switch}
use Rattle.jvm_tables.specs.Decoding.{decoding}
use Rattle.jvm_tables.specs.Opcodes.{row_of}
use Rattle.jvm_tables.specs.Switches.{word, padding, chosen, keys_rise, table_pairs, table_switch_pairs, pairs_of, target}
use Rattle.jvm_tables.specs.Switching.{IsSwitchAt, form_of, pairs_at, target_at}
use Rattle.jvm_tables.proofs.Cases.{equal, differ}
use Rattle.jvm_tables.proofs.Decoded.{lookup_there}
use Rattle.jvm_tables.proofs.Rows.{both}

lower_still : (a b c : ℤ) → int_lt a b ≡ true → b <ℤ c → a <ℤ c
lower_still a b c h k = grind (arith, ints)

-- the first key of rising ones is below each later one
first_below : (first : ℤ × ℤ) (front back : List (ℤ × ℤ)) (pair : ℤ × ℤ) → keys_rise (first ∷ (front ++ (pair ∷ back))) ≡ true → first.0 <ℤ pair.0
first_below first [] back pair h = let lower : int_lt first.0 pair.0 ≡ true = (both _ _ h).0 in grind (arith, ints)
first_below first (next ∷ front) back pair h =
    let lower : int_lt first.0 next.0 ≡ true = (both _ _ h).0 in
    lower_still first.0 next.0 pair.0 lower (first_below next front back pair (both _ _ h).1)

rest_rise : (first : ℤ × ℤ) (rest : List (ℤ × ℤ)) → keys_rise (first ∷ rest) ≡ true → keys_rise rest ≡ true
rest_rise first [] h = refl
rest_rise first (next ∷ rest) h = (both _ _ h).1

-- a key of rising ones leads by its own offset
pub leads : (default : ℤ) (front back : List (ℤ × ℤ)) (pair : ℤ × ℤ) → keys_rise (front ++ (pair ∷ back)) ≡ true → chosen default pair.0 (front ++ (pair ∷ back)) ≡ pair.1
leads default [] back pair h = rw (equal pair.0 pair.0 refl) refl
leads default (first ∷ front) back pair h =
    let below : first.0 <ℤ pair.0 = first_below first front back pair h in
    let other : first.0 ≢ pair.0 = λ e. omega (arith, ints) in
    rw (differ first.0 pair.0 other) (leads default front back pair (rest_rise first (front ++ (pair ∷ back)) h))

-- a number that is no key leads by the default
pub leads_to_default : (default key : ℤ) (pairs : List (ℤ × ℤ)) → AllByRecursion (λ (pair : ℤ × ℤ). pair.0 ≢ key) pairs → chosen default key pairs ≡ default
leads_to_default default key [] h = refl
leads_to_default default key (first ∷ pairs) h = rw (differ first.0 key h.0) (leads_to_default default key pairs h.1)

table_rises : (n : ℕ) (low : ℤ) (at : ℕ) (bytes : List ℕ) → keys_rise (table_pairs n low at bytes) ≡ true
table_rises zero low at bytes = refl
table_rises (suc zero) low at bytes = refl
table_rises (suc (suc n)) low at bytes =
    let lower : int_lt low (low +ℤ pos 1) ≡ true = grind (arith, ints) in
    rw lower (table_rises (suc n) (low +ℤ pos 1) (at + 4) bytes)

form_rises : (form : Form) (code : List ℕ) (i : Instr) → decoding i.pc (drop i.pc code) ≡ Ok i → form_of (row_of i.op) ≡ form → is_switch form ≡ true → keys_rise (pairs_of form i.pc (drop 1 (drop i.pc code))) ≡ true
unfolding table_switch_pairs
form_rises forms.TableSwitch code i d e s =
    let bytes : List ℕ = drop 1 (drop i.pc code) in
    let low : ℤ = word bytes (padding i.pc + 4) in
    let high : ℤ = word bytes (padding i.pc + 8) in
    table_rises (unsigned_abs (high -ℤ low) + 1) low (padding i.pc + 12) bytes
form_rises forms.LookupSwitch code i d e s = (lookup_there i.pc (drop i.pc code) i d e).rising
form_rises _ code i d e s = cc

pub keys_rise_at : (code : List ℕ) (i : Instr) → IsSwitchAt code i → keys_rise (pairs_at code i) ≡ true
keys_rise_at code i h = form_rises (form_of (row_of i.op)) code i h.decoded refl h.switch

pub key_leads : (code : List ℕ) (i : Instr) (front back : List (ℤ × ℤ)) (pair : ℤ × ℤ) → IsSwitchAt code i → pairs_at code i ≡ front ++ (pair ∷ back) → target_at code i pair.0 ≡ target i.pc pair.1
key_leads code i front back pair h e =
    let rise : keys_rise (front ++ (pair ∷ back)) ≡ true = sym (ap keys_rise e) ∙ keys_rise_at code i h in
    ap (λ pairs. target i.pc (chosen i.first pair.0 pairs)) e ∙ ap (target i.pc) (leads i.first front back pair rise)

pub others_lead : (code : List ℕ) (i : Instr) (key : ℤ) → AllByRecursion (λ (pair : ℤ × ℤ). pair.0 ≢ key) (pairs_at code i) → target_at code i key ≡ target i.pc i.first
others_lead code i key h = ap (target i.pc) (leads_to_default i.first key (pairs_at code i) h)
