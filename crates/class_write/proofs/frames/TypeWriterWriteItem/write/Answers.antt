use Rattle.class_write.proofs.FrameLemmas.{type_shaped}
use Rattle.std.proofs.Common.{sym}
use Rattle.class_write.proofs.frames.TypeWriterWriteItem.write.Goals as goal

pub returns-in_ok-put_u2-clause-shaped : goal.returns-in_ok-put_u2-clause-shaped
returns-in_ok-put_u2-clause-shaped c = type_shaped c.args.self.now.pool.now c.args.item.now (sym c.if-not-is_frame_type.ensures)

pub returns-else-item-ge-OBJECT_TAG-clause-shaped : goal.returns-else-item-ge-OBJECT_TAG-clause-shaped
returns-else-item-ge-OBJECT_TAG-clause-shaped c = type_shaped c.args.self.now.pool.now c.args.item.now (sym c.if-not-is_frame_type.ensures)
