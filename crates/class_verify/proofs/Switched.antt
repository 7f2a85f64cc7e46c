-- The targets of a switch, key by key.
use Rattle.std.proofs.Common.{◌≡◌, ℕ, ◌+◌, ◌<◌, ◌≤◌, Bool, true, false, ◌&&◌, List, [], length, take, drop, map, get_or, Some, refl, sym, ap, ◌∙◌, arith}
use Rattle.std.specs.Prelude.{slice_get, ℤ, option_map}
use Rattle.std.specs.List.{list_all}
use Rattle.std.proofs.lemmas.List.{take_all, length-map}
use Rattle.std.proofs.lemmas.List.Folds.{list_all_more, list_all_at}
use Rattle.std.proofs.lemmas.Option.{slice_get-map, slice_get_within, get_or_from_slice_get}
use Rattle.jvm_tables.specs.declared.code.Instr.{Instr}
use Rattle.jvm_tables.specs.declared.instruction.Form.{Form}
use Rattle.jvm_tables.specs.declared.instruction.Form.TheVariants as forms
use Rattle.jvm_tables.specs.Agreement.{is_switch}
use Rattle.jvm_tables.specs.Opcodes.{row_of}
use Rattle.jvm_tables.specs.Switches.{pairs_of, target}
use Rattle.jvm_tables.specs.Switching.{form_of, cases_at}

abbrev pub places : List (ℤ × ℕ) → List ℕ
places cases = map (λ (c : ℤ × ℕ). c.1) cases

place_at : (cases : List (ℤ × ℕ)) (i : ℕ) (c : ℤ × ℕ) → slice_get cases i ≡ Some c → get_or (places cases) i 0 ≡ c.1
place_at cases i c e =
    get_or_from_slice_get (places cases) i c.1 0 (slice_get-map (λ (c : ℤ × ℕ). c.1) cases i ∙ ap (λ o. option_map (λ (c : ℤ × ℕ). c.1) o) e)

within : (cases : List (ℤ × ℕ)) (i : ℕ) (c : ℤ × ℕ) → slice_get cases i ≡ Some c → i < length (places cases)
within cases i c e = omega (arith, slice_get_within cases i c e, length-map cases (λ (c : ℤ × ℕ). c.1))

pub case_more : (test : ℕ → Bool) (cases : List (ℤ × ℕ)) (i : ℕ) (c : ℤ × ℕ) → slice_get cases i ≡ Some c
    → list_all test (take i (places cases)) ≡ true → test c.1 ≡ true → list_all test (take (i + 1) (places cases)) ≡ true
case_more test cases i c e before here =
    list_all_more test (places cases) i 0 (within cases i c e)
    ∙ ap (λ b. b && test (get_or (places cases) i 0)) before ∙ ap test (place_at cases i c e) ∙ here

pub case_no : (test : ℕ → Bool) (cases : List (ℤ × ℕ)) (i : ℕ) (c : ℤ × ℕ) → slice_get cases i ≡ Some c
    → test c.1 ≡ false → list_all test (places cases) ≡ false
case_no test cases i c e here =
    list_all_at test (places cases) i 0 (within cases i c e) (ap test (place_at cases i c e) ∙ here)

pub case_all : (test : ℕ → Bool) (cases : List (ℤ × ℕ)) (i : ℕ) → length cases ≤ i
    → list_all test (take i (places cases)) ≡ true → list_all test (places cases) ≡ true
case_all test cases i h all =
    sym (ap (list_all test) (take_all i (places cases) (omega (arith, h, length-map cases (λ (c : ℤ × ℕ). c.1))))) ∙ all

-- what is no switch has no keys
none_of : (form : Form) (pc : ℕ) (bytes : List ℕ) → is_switch form ≡ false → pairs_of form pc bytes ≡ []
none_of forms.TableSwitch pc bytes e = cc
none_of forms.LookupSwitch pc bytes e = cc
none_of forms.Bare pc bytes e = refl
none_of forms.Byte pc bytes e = refl
none_of forms.Short pc bytes e = refl
none_of forms.ByteConstant pc bytes e = refl
none_of forms.Constant pc bytes e = refl
none_of forms.Local pc bytes e = refl
none_of forms.LocalIncrement pc bytes e = refl
none_of forms.Branch pc bytes e = refl
none_of forms.WideBranch pc bytes e = refl
none_of forms.InterfaceCall pc bytes e = refl
none_of forms.CallSite pc bytes e = refl
none_of forms.ElementType pc bytes e = refl
none_of forms.Dimensions pc bytes e = refl
none_of forms.Wide pc bytes e = refl

pub no_cases : (test : ℕ → Bool) (code : List ℕ) (instr : Instr) → is_switch (form_of (row_of instr.op)) ≡ false
    → list_all test (places (cases_at code instr)) ≡ true
no_cases test code instr e =
    ap (λ pairs. list_all test (places (map (λ (p : ℤ × ℤ). (p.0, target instr.pc p.1)) pairs)))
    (none_of (form_of (row_of instr.op)) instr.pc (drop 1 (drop instr.pc code)) e)
