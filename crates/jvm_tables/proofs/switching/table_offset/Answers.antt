-- Outside the bounds the default is taken.
use Rattle.std.proofs.Common.{◌+◌, ◌∙◌, sym, arith, w32, rules, FitsSigned}
use Rattle.std.proofs.lemmas.Int.{ints, to_z-of_z}
use Rattle.jvm_tables.proofs.Cases.{table_default}
use Rattle.jvm_tables.specs.Switches.{table_switch_pairs, word, padding}
use Rattle.jvm_tables.proofs.switching.table_offset.Goals as goal

pub returns-else-is_between : goal.returns-else-is_between
unfolding table_switch_pairs
returns-else-is_between c =
    let key : FitsSigned w32 c.args.key = search rules in
    let low : FitsSigned w32 c.word-low.result = search rules in
    let high : FitsSigned w32 c.word-high.result = search rules in
    table_default c.args.default c.args.key _ c.args.bytes.now (padding c.args.pc + 12) (word c.args.bytes.now (padding c.args.pc + 4)) (word c.args.bytes.now (padding c.args.pc + 8))
    (omega (arith, ints)) c.requires.bounds
    (rw (← c.padding-at.ensures, ← c.word-low.ensures, ← c.word-high.ensures) (sym (simp to_z-of_z at c.is_between.ensures) ∙ c.if-is_between.false))
