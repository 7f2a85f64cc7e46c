use Rattle.std.proofs.Common.{◌≡◌, ◌-◌, length}
use Rattle.class_model.specs.Units.{units_at}
use Rattle.task_annotations.proofs.Units.{put}
use Rattle.task_annotations.proofs.spelled.units_of.Given as goal

abbrev pub invariant-loop-i : goal.invariant-loop-i
invariant-loop-i l = units_at (length l.bytes) l.bytes ≡ put l.units.items (units_at (length l.bytes - l.i) l.rest)
