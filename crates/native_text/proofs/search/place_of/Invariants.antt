use Rattle.std.proofs.Common.{◌≡◌, ◌-◌, ◌<◌, length, drop}
use Rattle.native_model.specs.Texts.{place_from}
use Rattle.native_text.specs.Searching.{Reaches, IsOverlaps}
use Rattle.native_text.proofs.search.place_of.Given as goal

abbrev pub invariant-loop-at : goal.invariant-loop-at
invariant-loop-at l = record {
  place : place_from 0 l.part l.text ≡ place_from l.at l.part (drop l.at l.text);
  before : 0 < l.end → l.start < l.at;
  some : 0 < length l.part;
  all : length l.overlaps.items ≡ length l.part;
  told : IsOverlaps l.part l.overlaps.items;
  known : l.start < l.end → Reaches l.part l.text l.start (l.end - l.start);
}
