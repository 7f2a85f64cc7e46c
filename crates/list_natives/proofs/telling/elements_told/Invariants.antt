use Rattle.std.proofs.Common.{◌≡◌, ◌+◌, ◌≤◌, ◌∷◌, ◌++◌, length, drop}
use Rattle.native_model.specs.Answers.{results}
use Rattle.native_model.specs.Ends.{progress_of}
use Rattle.native_model.specs.Lists.{element_texts, with_commas}
use Rattle.list_natives.specs.Told.{texts_told}
use Rattle.list_natives.proofs.telling.elements_told.Given as goal

abbrev pub invariant-each : goal.invariant-each
invariant-each g l = record {
  told : 0x5b ∷ with_commas (element_texts l.elements (texts_told l.world.world (results (progress_of l.progress)))) ≡ l.units.items ++ with_commas (element_texts l.rest (texts_told l.world.world (drop l.next (results (progress_of l.progress)))));
  few : l.next + length l.rest ≤ length l.elements;
}

abbrev pub decreases-each : goal.decreases-each
decreases-each g l = length l.rest
