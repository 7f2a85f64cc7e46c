use Rattle.std.proofs.Common.{◌≡◌, ◌-◌, false}
use Rattle.class_text.specs.Pool.{constants_at}
use Rattle.const_pool.specs.Faults.{with_front}
use Rattle.const_pool.proofs.pool_reader.constants_in.Given as goal

abbrev pub invariant-loop-read : goal.invariant-loop-read
invariant-loop-read l = with_front l.constants (constants_at l.end l.due (l.numbers - l.read) l.rest) ≡ constants_at l.end false l.numbers l.bytes
