use Rattle.std.proofs.Common.{◌≡◌, ◌&&◌, drop}
use Rattle.class_verify.specs.Kinds.{all_fit}
use Rattle.class_verify.proofs.kinds.all_fit.Given as goal

abbrev pub invariant-loop-at : goal.invariant-loop-at
invariant-loop-at l = (l.fit && all_fit (drop l.at l.kinds) (drop l.at l.wanted)) ≡ all_fit l.kinds l.wanted
