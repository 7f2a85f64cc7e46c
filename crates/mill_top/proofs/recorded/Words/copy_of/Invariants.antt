use Rattle.std.proofs.Common.{◌≡◌, take}
use Rattle.mill_top.proofs.recorded.Words.copy_of.Given as goal

abbrev pub invariant-loop-word : goal.invariant-loop-word
invariant-loop-word l = l.items.items ≡ take l.word-index l.words
