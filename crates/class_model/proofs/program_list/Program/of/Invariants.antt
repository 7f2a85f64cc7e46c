use Rattle.std.specs.BTreeMap.{get}
use Rattle.std.specs.Cmp.Lexicographic.{slice_cmp}
use Rattle.std.specs.Ordering.{nat_cmp}
use Rattle.class_model.specs.Programs.{IsIndexOf, LeastAmong}
use Rattle.class_model.proofs.program_list.Program.of.Given as goal

abbrev pub invariant-loop-at : goal.invariant-loop-at
invariant-loop-at l = IsIndexOf l.classes.items l.at (get (slice_cmp nat_cmp) l.places) × LeastAmong l.classes.items l.at l.least
