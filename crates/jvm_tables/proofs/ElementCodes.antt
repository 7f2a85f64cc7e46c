-- The codes of element types that decoding lets through.
use Rattle.std.proofs.Common.{◌≡◌, ℕ, zero, suc, ◌+◌, ◌-◌, ◌≤◌, List, true, ◌&&◌, Err, refl, subst, arith, drop, nat_le, pos, IsSome}
use Rattle.jvm_tables.specs.declared.code.CodeFault.TheVariants.{BadOperand}
use Rattle.jvm_tables.specs.declared.instruction.Form.TheVariants as forms
use Rattle.jvm_tables.specs.declared.instruction.OpRow.{OpRow}
use Rattle.jvm_tables.specs.Decoding.{element_type}
use Rattle.jvm_tables.specs.Elements.{element_of, NamesElement}
use Rattle.jvm_tables.specs.Switches.{byte_at}
use Rattle.jvm_tables.proofs.Decoded.{Decoded, decoded, formed_as}
use Rattle.jvm_tables.proofs.Readings.{Sure, sure_ok, sure_err, sure_bind, sure_if, sure_byte}

-- the code that stands so much after that of boolean
is_element_after : (m : ℕ) → m ≤ 7 → IsSome (element_of (pos (4 + m)))
is_element_after zero h = refl
is_element_after (suc zero) h = refl
is_element_after (suc (suc zero)) h = refl
is_element_after (suc (suc (suc zero))) h = refl
is_element_after (suc (suc (suc (suc zero)))) h = refl
is_element_after (suc (suc (suc (suc (suc zero))))) h = refl
is_element_after (suc (suc (suc (suc (suc (suc zero)))))) h = refl
is_element_after (suc (suc (suc (suc (suc (suc (suc zero))))))) h = refl
is_element_after (suc (suc (suc (suc (suc (suc (suc (suc m)))))))) h = absurd (omega arith)

is_element : (n : ℕ) → (nat_le 4 n && nat_le n 11) ≡ true → IsSome (element_of (pos n))
is_element n h =
    let low : 4 ≤ n = grind arith in
    let high : n ≤ 11 = grind arith in
    let same : 4 + (n - 4) ≡ n = omega arith in
    subst (λ m. IsSome (element_of (pos m))) same (is_element_after (n - 4) (omega arith))

named : (pc : ℕ) (row : OpRow) (a : List ℕ) → Sure (element_type pc row a) (λ i. IsSome (element_of i.first))
unfolding element_type
named pc row a =
    sure_bind (byte_at a 0) _ _ _ (sure_byte a 0) (λ n h.
    sure_if (nat_le 4 n && nat_le n 11) _ (Err BadOperand) _ (λ t. sure_ok _ _ (is_element n t)) (λ f. sure_err BadOperand _))

pub names_element : NamesElement
names_element pc bytes i e form =
    let d : Decoded pc bytes i = decoded pc bytes i e in
    named pc d.row (drop 1 bytes) i (formed_as pc bytes i d forms.ElementType refl refl form)
