-- Values on the operand stack, one after another.
use Rattle.std.proofs.Common.{◌≡◌, ℕ, ◌+◌, ◌-◌, ◌<◌, ◌≤◌, List, length, drop, get_or, reverse, Some, sym, ap, ◌∙◌, arith}
use Rattle.std.specs.Prelude.{option_and_then}
use Rattle.std.proofs.lemmas.List.{drop_more, drop_all, get_or-reverse, length-reverse}
use Rattle.jvm_tables.specs.declared.instruction.ValueKind.{ValueKind}
use Rattle.class_verify.specs.declared.kinds.Kind.{Kind}
use Rattle.class_verify.specs.Stacks.{below_value, below_values, with_value, with_values}

-- the value at a place from the end is taken next
pub take_step : (kinds : List ValueKind) (at : ℕ) (d : ValueKind) (stack : List Kind) → at < length kinds
    → below_values (drop at (reverse kinds)) stack ≡ option_and_then (below_values (drop (at + 1) (reverse kinds))) (below_value (get_or kinds (length kinds - 1 - at) d) stack)
take_step kinds at d stack h =
    let inside : at < length (reverse kinds) = omega (arith, length-reverse kinds) in
    ap (λ r. below_values r stack) (drop_more (reverse kinds) at d inside)
    ∙ ap (λ v. option_and_then (below_values (drop (at + 1) (reverse kinds))) (below_value v stack)) (get_or-reverse kinds at d h)

pub take_end : (kinds : List ValueKind) (at : ℕ) (stack : List Kind) → length kinds ≤ at → below_values (drop at (reverse kinds)) stack ≡ Some stack
take_end kinds at stack h = ap (λ r. below_values r stack) (drop_all at (reverse kinds) (omega (arith, length-reverse kinds)))

pub put_step : (kinds : List ValueKind) (at : ℕ) (k : ValueKind) (stack : List Kind) → at < length kinds → k ≡ get_or kinds at k
    → with_values (drop at kinds) stack ≡ with_values (drop (at + 1) kinds) (with_value k stack)
put_step kinds at k stack h e =
    ap (λ r. with_values r stack) (drop_more kinds at k h) ∙ ap (λ v. with_values (drop (at + 1) kinds) (with_value v stack)) (sym e)

pub put_end : (kinds : List ValueKind) (at : ℕ) (stack : List Kind) → length kinds ≤ at → with_values (drop at kinds) stack ≡ stack
put_end kinds at stack h = ap (λ r. with_values r stack) (drop_all at kinds h)
