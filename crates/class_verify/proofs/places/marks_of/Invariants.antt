use Rattle.std.proofs.Common.{◌≡◌, ◌<◌, ◌-◌, length}
use Rattle.std.specs.Prelude.{IfSome}
use Rattle.class_verify.proofs.Tables.{Told}
use Rattle.class_verify.proofs.places.marks_of.Given as goal

abbrev pub invariant-loop-count : goal.invariant-loop-count
invariant-loop-count l = record {
  same : length l.marks.items ≡ length l.code;
  inside : IfSome l.next (λ pc. pc < length l.code);
  told : Told l.code l.marks.items (length l.code - l.count) l.next;
}
