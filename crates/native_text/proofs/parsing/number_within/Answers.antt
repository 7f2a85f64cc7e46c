use Rattle.std.proofs.Common.{◌≡◌, ◌<◌, length, drop, sym, ap, ◌∙◌, arith}
use Rattle.native_text.specs.Parsing.{digits_behind}
use Rattle.native_text.proofs.Digits.{number_told, digits_ended}
use Rattle.native_text.proofs.parsing.number_within.Goals as goal

pub returns-clause-number : goal.returns-clause-number
returns-clause-number c =
    let some : 0 < length c.args.units.now = grind arith in
    let over : c.loop-unit.unit-index ≡ length c.args.units.now = omega arith in
    sym (number_told c.args.most c.args.units.now some ∙ (c.loop-unit.invariant.told
    ∙ (ap (λ i. digits_behind c.args.most c.loop-unit.number (drop i c.args.units.now)) over ∙ digits_ended c.args.most c.loop-unit.number c.args.units.now c.loop-unit.invariant.within)))
