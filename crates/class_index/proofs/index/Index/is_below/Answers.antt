use Rattle.std.proofs.Common.{refl, arith}
use Rattle.place_graph.specs.Searches.{is_marked}
use Rattle.class_index.specs.Hierarchy.{all_of}
use Rattle.class_index.proofs.PlaceLemmas.{length-hierarchy}
use Rattle.class_index.proofs.Belows.{below_by_marks}
use Rattle.class_index.proofs.index.Index.is_below.Goals as goal

pub bounds-marks-at : goal.bounds-marks-at
bounds-marks-at c = omega (arith, c.requires.at, c.requires.marks.all, length-hierarchy (all_of c.args.self.now))

pub returns : goal.returns
returns c =
    below_by_marks c.self.inside.own c.self.inside.all c.args.self.now c.self.inside.above c.args.high c.args.at c.args.marks.now (is_marked c.args.marks.now c.args.at)
    c.self.invariant.classes c.self.view_is c.self.invariant.closed c.requires.marks (λ e. omega (arith, e, c.place.ensures)) refl
