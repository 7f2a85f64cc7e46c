use Rattle.std.proofs.Common.{◌≡◌, ◌-◌, ◌<◌, length}
use Rattle.native_text.specs.Searching.{Reaches, IsOverlaps}
use Rattle.native_text.proofs.search.overlaps_of.Given as goal

abbrev pub invariant-loop-at : goal.invariant-loop-at
invariant-loop-at l = record {
  told : IsOverlaps l.part l.overlaps.items;
  all : length l.overlaps.items ≡ l.at;
  before : l.start < l.at;
  some : 0 < l.end → 0 < l.start;
  known : l.start < l.end → Reaches l.part l.part l.start (l.end - l.start);
}
