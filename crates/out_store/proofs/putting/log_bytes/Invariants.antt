use Rattle.std.proofs.Common.{◌≡◌, take}
use Rattle.out_store.specs.Publishing.{log_text}
use Rattle.out_store.proofs.putting.log_bytes.Given as goal

abbrev pub invariant-loop-line : goal.invariant-loop-line
invariant-loop-line l = l.bytes.items ≡ log_text (take l.line-index l.lines)
