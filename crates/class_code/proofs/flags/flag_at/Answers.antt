use Rattle.std.proofs.Common.{Some, None}
use Rattle.class_code.proofs.Flagged.{flag_kept}
use Rattle.class_code.proofs.flags.flag_at.Goals as goal

pub returns-in-Some : goal.returns-in-Some
returns-in-Some c = flag_kept c.args.flags.now c.args.number (Some c.in-Some.flag.now) c.if-number-eq0.false c.in-Some.ensures.value

pub returns-in-None : goal.returns-in-None
returns-in-None c = flag_kept c.args.flags.now c.args.number None c.if-number-eq0.false c.in-None.ensures.value
