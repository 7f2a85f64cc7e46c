use Rattle.std.proofs.Common.{◌≡◌, length, ap, arith}
use Rattle.class_index.specs.Hierarchy.{all_of}
use Rattle.class_index.proofs.Questions.{all_are}
use Rattle.class_index.proofs.index.Index.number.Goals as goal

pub overflow_cast-result : goal.overflow_cast-result
overflow_cast-result c =
    let count : length c.self.inside.all ≡ length (all_of c.args.self.now) = ap length (all_are c.self.inside.own c.self.inside.all c.args.self.now c.self.invariant.classes c.self.view_is) in
    omega (arith, count, c.self.invariant.few, c.requires)
