use Rattle.std.specs.Io.KnownBytes.{Keeps}
use Rattle.io_real.proofs.streams.write_once.Given as goal

-- interrupted writes took nothing
abbrev pub invariant-tries : goal.invariant-tries
invariant-tries g l = Keeps (g.O.Write.contents l.fn.output) (g.O.Write.contents l.output)
