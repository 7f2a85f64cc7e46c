use Rattle.std.proofs.Common.{◌≡◌, ◌≤◌, drop}
use Rattle.task_resolve.specs.Spots.{start}
use Rattle.task_resolve.specs.Words.{first_bad_from}
use Rattle.task_resolve.proofs.words.first_bad_by.Given as goal

abbrev pub invariant-loop-word : goal.invariant-loop-word
invariant-loop-word l =
    (l.number ≤ 257)
    × (first_bad_from l.place l.command l.number l.spot (drop l.word-index l.words) ≡ first_bad_from l.place l.command 1 start l.words)
