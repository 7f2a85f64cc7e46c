use Rattle.class_index.specs.Texts.{AreTexts}
use Rattle.class_index.proofs.texts.no_texts.Given as goal

abbrev pub invariant-loop : goal.invariant-loop
invariant-loop l = AreTexts l.pool l.texts.items
