use Rattle.std.proofs.Common.{◌≡◌, take, map}
use Rattle.class_index.specs.Outlines.{member_outline}
use Rattle.class_index.specs.Texts.{AreTexts}
use Rattle.class_index.proofs.outline.member_outlines.Given as goal

abbrev pub invariant-loop-member : goal.invariant-loop-member
invariant-loop-member l = (l.outlines ≡ map (member_outline l.pool) (take l.member-index l.members)) × AreTexts l.pool l.texts.items
