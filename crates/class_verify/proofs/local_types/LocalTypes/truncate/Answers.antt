use Rattle.std.proofs.Common.{◌-◌, ◌≤◌, length, take, ap, ◌∙◌, arith}
use Rattle.std.proofs.lemmas.List.{take-take}
use Rattle.class_verify.proofs.local_types.LocalTypes.truncate.Goals as goal

pub loop-self-preserved : goal.loop-self-preserved
loop-self-preserved c =
    let room : c.args.most ≤ length c.loop-self.self.types.items - 1 = omega arith in
    record {
      told = c.pop.ensures.told;
      types = ap (take c.args.most) c.pop.ensures.types ∙ take-take c.args.most _ c.loop-self.self.types.items room ∙ c.loop-self.invariant.types;
    }
