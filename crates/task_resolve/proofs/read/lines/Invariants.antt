use Rattle.std.proofs.Common.{◌≡◌, take}
use Rattle.task_resolve.proofs.read.lines.Given as goal

abbrev pub invariant-loop-word : goal.invariant-loop-word
invariant-loop-word l = l.lines.items ≡ take l.word-index l.words
