-- What the front of units spells, and what the bytes of a name spell.
use Rattle.std.proofs.Common.{◌≡◌, ℕ, zero, suc, ◌≤◌, Bool, true, false, ◌&&◌, List, [], ◌∷◌, ◌++◌, length, flat_map, Option, Some, None, unwrap_or, option_map, option_and_then, if◌then◌else◌, refl, sym, ◌∙◌, ap, arith, length-append, append_assoc, append-nil}
use Rattle.std.specs.Char.Utf16.{utf16_chars, lone_unit_char, surrogate_pair_char, is_high_surrogate, is_low_surrogate}
use Rattle.class_model.specs.ModifiedUtf8.{unit, Spells, IsModifiedUtf8}
use Rattle.class_model.specs.Units.{unit_at, units_at}
use Rattle.class_model.proofs.UnitLemmas.{unit_at-unit}
use Rattle.class_model.proofs.TextLemmas.{length-unit}
use Rattle.line_text.specs.Lines.{line_of_spelled, line_of_units, units_of_name}

-- the character of a pair, if two units are one
abbrev pub pair : ℕ → ℕ → Option ℕ
pair high low = if is_high_surrogate high && is_low_surrogate low then Some (surrogate_pair_char high low) else None

pub last_taken : (u : ℕ) (us : List ℕ) → length us ≡ 0 → utf16_chars (u ∷ us) ≡ lone_unit_char u ∷ utf16_chars us
unfolding utf16_chars
last_taken u [] e = refl
last_taken u (v ∷ us) e = absurd (omega arith)

pub pair_taken : (u v c : ℕ) (us all : List ℕ) → all ≡ v ∷ us → Some c ≡ pair u v → utf16_chars (u ∷ all) ≡ Some c ∷ utf16_chars us
unfolding utf16_chars
pair_taken u v c us all is e = rw is (by_test (is_high_surrogate u && is_low_surrogate v) e)
  where
    by_test : (t : Bool) → Some c ≡ (if t then Some (surrogate_pair_char u v) else None)
        → (if t then Some (surrogate_pair_char u v) ∷ utf16_chars us else lone_unit_char u ∷ utf16_chars (v ∷ us)) ≡ Some c ∷ utf16_chars us
    by_test true is = cc
    by_test false is = cc

pub lone_taken : (u v : ℕ) (us all : List ℕ) → all ≡ v ∷ us → None ≡ pair u v → utf16_chars (u ∷ all) ≡ lone_unit_char u ∷ utf16_chars all
unfolding utf16_chars
lone_taken u v us all is e = rw is (by_test (is_high_surrogate u && is_low_surrogate v) e)
  where
    by_test : (t : Bool) → None ≡ (if t then Some (surrogate_pair_char u v) else None)
        → (if t then Some (surrogate_pair_char u v) ∷ utf16_chars us else lone_unit_char u ∷ utf16_chars (v ∷ us)) ≡ lone_unit_char u ∷ utf16_chars (v ∷ us)
    by_test true is = cc
    by_test false is = refl

units_step : (most : ℕ) (bytes : List ℕ) (u : ℕ) (rest : List ℕ) → unit_at bytes ≡ Some (u, rest)
    → units_at (suc most) bytes ≡ option_map (λ us. u ∷ us) (units_at most rest)
unfolding units_at unit_at
units_step most [] u rest e = cc
units_step most (b ∷ bytes) u rest e = ap (λ found. option_and_then (λ f. option_map (λ us. f.0 ∷ us) (units_at most f.1)) found) e

-- units are read back from the bytes that spell them
units_at-spelled : (units : List ℕ) (most : ℕ) (bytes : List ℕ) → Spells units bytes → length bytes ≤ most → units_at most bytes ≡ Some units
unfolding units_at
units_at-spelled [] zero bytes s few = rw s.spelled refl
units_at-spelled [] (suc most) bytes s few = rw s.spelled refl
units_at-spelled (u ∷ us) zero bytes s few =
    absurd (omega (arith, length-unit u, ap length s.spelled ∙ length-append (unit u) (flat_map unit us), few))
units_at-spelled (u ∷ us) (suc most) bytes s few =
    let rest = flat_map unit us in
    let at : unit_at bytes ≡ Some (u, rest) = rw s.spelled (unit_at-unit u rest s.fit.0) in
    let shorter : length rest ≤ most = omega (arith, length-unit u, ap length s.spelled ∙ length-append (unit u) (flat_map unit us), few) in
    let more = units_at-spelled us most rest (record { fit = s.fit.1; spelled = refl }) shorter in
    units_step most bytes u rest at ∙ ap (λ found. option_map (λ vs. u ∷ vs) found) more

pub units_of_name-spelled : (units bytes : List ℕ) → Spells units bytes → units_of_name bytes ≡ units
unfolding units_of_name
units_of_name-spelled units bytes s = ap (λ found. unwrap_or found []) (units_at-spelled units (length bytes) bytes s (omega arith))

same_unit : (u v : ℕ) (r s : List ℕ) → (let p : ℕ × List ℕ = (u, r) in let q : ℕ × List ℕ = (v, s) in Some p ≡ Some q) → (u ≡ v) × (r ≡ s)
same_unit u v r s e =
    (ap (λ (o : Option (ℕ × List ℕ)). (unwrap_or o (u, r)).0) e, ap (λ (o : Option (ℕ × List ℕ)). (unwrap_or o (u, r)).1) e)

-- the units of a name are its first unit and those behind it
pub units_of_name-behind : (bytes : List ℕ) (u : ℕ) (rest : List ℕ) → unit_at bytes ≡ Some (u, rest) → IsModifiedUtf8 bytes
    → units_of_name bytes ≡ u ∷ units_of_name rest
unfolding unit_at
units_of_name-behind bytes u rest e ([], s) = absurd (let n : unit_at bytes ≡ None = rw s.spelled refl in cc)
units_of_name-behind bytes u rest e (v ∷ vs, s) =
    let at : unit_at bytes ≡ Some (v, flat_map unit vs) = rw s.spelled (unit_at-unit v (flat_map unit vs) s.fit.0) in
    let same = same_unit _ _ _ _ (sym e ∙ at) in
    let behind : units_of_name rest ≡ vs = units_of_name-spelled vs rest (record { fit = s.fit.1; spelled = same.1 }) in
    units_of_name-spelled (v ∷ vs) bytes s ∙ sym (rw (same.0, behind) refl)

-- no unit begins only where no bytes are left
pub no_units : (bytes : List ℕ) → unit_at bytes ≡ None → IsModifiedUtf8 bytes → units_of_name bytes ≡ []
no_units bytes e ([], s) = units_of_name-spelled [] bytes s
no_units bytes e (v ∷ vs, s) =
    absurd (let at : unit_at bytes ≡ Some (v, flat_map unit vs) = rw s.spelled (unit_at-unit v (flat_map unit vs) s.fit.0) in cc)

line_taken : (units after : List ℕ) (o : Option ℕ) → utf16_chars units ≡ o ∷ utf16_chars after → line_of_units units ≡ line_of_spelled o ++ line_of_units after
unfolding line_of_units
line_taken units after o e = ap (flat_map line_of_spelled) e

-- what is put and what is to come stay the same together
pub goes_on : (done put whole units after : List ℕ) (o : Option ℕ) → done ++ line_of_units units ≡ whole → utf16_chars units ≡ o ∷ utf16_chars after
    → put ≡ done ++ line_of_spelled o → put ++ line_of_units after ≡ whole
goes_on done put whole units after o so_far taken more =
    rw (more, append_assoc, ← line_taken units after o taken) so_far

pub line_of_none : (units : List ℕ) → units ≡ [] → line_of_units units ≡ []
unfolding line_of_units utf16_chars
line_of_none units e = rw e refl

-- at the end all is put
pub all_put : (done whole units : List ℕ) → done ++ line_of_units units ≡ whole → units ≡ [] → done ≡ whole
all_put done whole units so_far e = let none = line_of_none units e in sym (append-nil done) ∙ (rw (← none) so_far)

pub no_items : (units : List ℕ) → length units ≡ 0 → units ≡ []
no_items [] none = refl
no_items (u ∷ units) none = absurd (omega arith)

-- What is put is as long as what was there before.
pub longer_too : (before done put more : List ℕ) → length before ≤ length done → put ≡ done ++ more → length before ≤ length put
longer_too before done put more fits is = omega (arith, fits, ap length is ∙ length-append done more)
