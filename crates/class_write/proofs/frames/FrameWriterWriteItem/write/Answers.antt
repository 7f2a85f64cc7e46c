use Rattle.std.proofs.Common.{sym}
use Rattle.class_write.proofs.FrameLemmas.{whole}
use Rattle.class_write.proofs.Lists.{written_both}
use Rattle.class_write.proofs.frames.FrameWriterWriteItem.write.Goals as goal

pub returns-clause-ok : goal.returns-clause-ok
returns-clause-ok c = written_both _ _ _ _ _ _ c.in_ok-put_head.ensures.ok c.in_ok-put_lists.ensures.ok (whole c.args.item.now (sym c.if-not-has_layout.ensures))
