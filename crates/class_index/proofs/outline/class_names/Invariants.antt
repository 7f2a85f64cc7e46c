use Rattle.std.proofs.Common.{◌≡◌, take}
use Rattle.std.specs.List.{filter_map}
use Rattle.class_model.specs.Constants.{class_at}
use Rattle.class_index.specs.Texts.{AreTexts}
use Rattle.class_index.proofs.outline.class_names.Given as goal

abbrev pub invariant-loop-number : goal.invariant-loop-number
invariant-loop-number l = (l.names ≡ filter_map (class_at l.pool) (take l.number-index l.numbers)) × AreTexts l.pool l.texts.items
