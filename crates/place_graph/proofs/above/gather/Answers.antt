use Rattle.std.proofs.Common.{arith}
use Rattle.place_graph.proofs.Marks.{among_at}
use Rattle.place_graph.proofs.above.gather.Goals as goal

pub add_reached-requires-clause-listed : goal.add_reached-requires-clause-listed
add_reached-requires-clause-listed c = c.requires.listed _ (among_at c.args.places.now c.loop-place.place-index 0 (omega arith))
