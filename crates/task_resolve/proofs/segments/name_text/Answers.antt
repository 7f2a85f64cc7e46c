use Rattle.std.proofs.Common.{refl}
use Rattle.task_resolve.proofs.NameLaws.{name_text}
use Rattle.task_resolve.proofs.segments.name_text.Goals as goal

pub unreachable-requires : goal.unreachable-requires
unreachable-requires c =
    let bad = rw (c.in-Err-BadText.is, c.in-Err-BadText.field-0-is) at c.of.ensures.bad_text in
    absurd (bad refl (name_text c.args.text.now c.requires))
