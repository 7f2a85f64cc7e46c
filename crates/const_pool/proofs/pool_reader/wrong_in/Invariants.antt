use Rattle.std.proofs.Common.{◌≡◌, ◌+◌, drop, flat_map, length}
use Rattle.class_model.specs.Spelling.{constant}
use Rattle.class_text.specs.Pool.{wrong_at}
use Rattle.const_pool.proofs.pool_reader.wrong_in.Given as goal

abbrev pub invariant-loop-constant : goal.invariant-loop-constant
invariant-loop-constant l =
    (wrong_at l.pool l.at l.pool.constants ≡ wrong_at l.pool l.place (drop l.constant-index l.pool.constants))
    × (l.place + length (flat_map constant (drop l.constant-index l.pool.constants)) ≡ l.at + length (flat_map constant l.pool.constants))
