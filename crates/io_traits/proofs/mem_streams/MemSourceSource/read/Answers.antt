use Rattle.std.proofs.Common.{arith, ◌∙◌, ap, drop}
use Rattle.io_traits.proofs.Pieces.{piece_read}
use Rattle.io_traits.proofs.mem_streams.MemSourceSource.read.Goals as goal

pub returns-clause-given : goal.returns-clause-given
returns-clause-given c = piece_read c.args.self.now.bytes c.args.into.now c.split_at.result.1.now _ c.args.self.now.at c.min-n.result (c.split_at.ensures.back ∙ ap (drop c.args.self.now.at) c.as_slice.ensures) c.copy_from_slice.ensures.after (omega arith)
