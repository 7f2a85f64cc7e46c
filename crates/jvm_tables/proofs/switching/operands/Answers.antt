-- Where an instruction is decoded, there is a byte.
use Rattle.std.proofs.Common.{◌<◌, arith, drop, length}
use Rattle.std.proofs.lemmas.List.{length-drop}
use Rattle.jvm_tables.proofs.Decoded.{byte_there, table_there, lookup_there}
use Rattle.jvm_tables.proofs.switching.operands.Goals as goal

pub split_at-requires : goal.split_at-requires
split_at-requires c =
    let some : 0 < length (drop c.args.instr.now.pc c.args.code.now) = byte_there c.args.instr.now.pc (drop c.args.instr.now.pc c.args.code.now) c.args.instr.now c.requires.decoded in
    omega (arith, length-drop c.args.instr.now.pc c.args.code.now)

pub split_at-requires-2 : goal.split_at-requires-2
split_at-requires-2 c =
    let some : 0 < length (drop c.args.instr.now.pc c.args.code.now) = byte_there c.args.instr.now.pc (drop c.args.instr.now.pc c.args.code.now) c.args.instr.now c.requires.decoded in
    omega (arith, length-drop c.args.instr.now.pc c.args.code.now)

pub returns-clause-table : goal.returns-clause-table
returns-clause-table c = λ e.
    rw (c.split_at-2.ensures.back, c.split_at.ensures.back) (table_there c.args.instr.now.pc (drop c.args.instr.now.pc c.args.code.now) c.args.instr.now c.requires.decoded e)

pub returns-clause-lookup : goal.returns-clause-lookup
returns-clause-lookup c = λ e.
    rw (c.split_at-2.ensures.back, c.split_at.ensures.back) (lookup_there c.args.instr.now.pc (drop c.args.instr.now.pc c.args.code.now) c.args.instr.now c.requires.decoded e)
