use Rattle.std.proofs.Common.{◌≡◌, ℕ, ◌<◌, ◌==◌, false, length, get_or}
use Rattle.task_resolve.proofs.matching.first_marks.Given as goal

abbrev pub invariant-loop-count : goal.invariant-loop-count
invariant-loop-count l = (length l.marks.items ≡ l.count) × ((k : ℕ) → k < l.count → get_or l.marks.items k false ≡ (k == 0))
