use Rattle.std.proofs.Common.{◌≡◌, ◌≤◌, ◌*◌, ◌++◌, drop}
use Rattle.class_verify.specs.Frames.{frames_from}
use Rattle.class_verify.specs.LocalTypes.{AreTold}
use Rattle.class_verify.proofs.frames.frames_of.Given as goal

abbrev pub invariant-loop-f : goal.invariant-loop-f
invariant-loop-f l = record {
  small : l.next ≤ 65536 * l.f-index;
  told : AreTold l.types;
  frames : l.found ++ frames_from l.limits l.next l.types.types.items (drop l.f-index l.frames) ≡ frames_from l.limits 0 l.first l.frames;
}
