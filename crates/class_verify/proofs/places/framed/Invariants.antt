use Rattle.std.proofs.Common.{◌≡◌, ◌≤◌, length}
use Rattle.class_verify.proofs.Tables.{Tabled}
use Rattle.class_verify.proofs.places.framed.Given as goal

abbrev pub invariant-loop-place : goal.invariant-loop-place
invariant-loop-place l = record {
  inside : l.place ≤ length l.frames;
  same : length l.table.items ≡ length l.code;
  told : Tabled l.code l.frames l.table.items l.place;
}

abbrev pub decreases-loop-place : goal.decreases-loop-place
decreases-loop-place l = l.place
