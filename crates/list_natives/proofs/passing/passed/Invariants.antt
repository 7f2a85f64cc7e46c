use Rattle.std.proofs.Common.{◌≡◌, ◌++◌, drop}
use Rattle.native_model.specs.Answers.{results}
use Rattle.native_model.specs.Ends.{progress_of}
use Rattle.native_model.specs.Lists.{passed}
use Rattle.list_natives.proofs.passing.passed.Given as goal

abbrev pub invariant-loop-at : goal.invariant-loop-at
invariant-loop-at l = passed l.elements (results (progress_of l.progress)) ≡ l.kept.items ++ passed (drop l.at l.elements) (drop l.at (results (progress_of l.progress)))
