use Rattle.std.proofs.Common.{◌≡◌, ◌-◌, ◌∙◌, length, take, ap, arith}
use Rattle.class_verify.specs.Frames.{slots_of}
use Rattle.class_verify.proofs.Tracking.{told_fewer}
use Rattle.class_verify.proofs.local_types.LocalTypes.pop.Goals as goal

pub returns-clause-told : goal.returns-clause-told
returns-clause-told c =
    let fewer : c.saturating_sub-most.result ≡ length c.args.self.now.slots - length (slots_of c.in-Some.t) =
    omega (arith, c.saturating_sub-most.ensures, c.len.ensures, c.width.ensures) in
    told_fewer c.args.self.now _ c.in-Some.t c.requires.told c.in-Some.ensures.items
    (c.truncate.ensures ∙ ap (λ n. take n c.args.self.now.slots) fewer) c.floats_without-self.ensures
