use Rattle.std.proofs.Common.{rules, ap, Err}
use Rattle.mill_top.proofs.PathLaws.{letter_text}
use Rattle.mill_top.proofs.evaluating.task_name.Goals as goal

pub unreachable-requires : goal.unreachable-requires
unreachable-requires c =
    let wrong = c.in-Err-BadText.ensures.bad_text in
    let bad = rw c.in-Err-BadText.field-0-is at wrong in
    let text = letter_text c.args.file.task c.requires.low c.requires.high in
    bad (search rules) text
