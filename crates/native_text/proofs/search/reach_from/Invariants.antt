use Rattle.std.proofs.Common.{◌+◌, ◌-◌, ◌≤◌, length}
use Rattle.native_text.specs.Searching.{Agrees}
use Rattle.native_text.proofs.search.reach_from.Given as goal

abbrev pub invariant-loop-reached : goal.invariant-loop-reached
invariant-loop-reached l = record {
  in_part : l.reached ≤ length l.part;
  in_text : l.at + l.reached ≤ length l.text;
  agrees : Agrees l.part l.text l.at l.reached;
}

abbrev pub decreases-loop-reached : goal.decreases-loop-reached
decreases-loop-reached l = length l.part - l.reached
