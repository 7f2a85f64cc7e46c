use Rattle.std.specs.Io.KnownBytes.{Keeps}
use Rattle.io_real.proofs.streams.read_once.Given as goal

-- interrupted reads gave nothing
abbrev pub invariant-tries : goal.invariant-tries
invariant-tries g l = Keeps (g.I.Read.remaining l.fn.input) (g.I.Read.remaining l.input)
