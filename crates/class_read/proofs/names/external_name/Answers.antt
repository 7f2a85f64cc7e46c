use Rattle.std.proofs.Common.{sym}
use Rattle.class_read.proofs.TwiceLemmas.{least_external_IsName}
use Rattle.class_read.proofs.names.external_name.Goals as goal

pub of_valid-requires : goal.of_valid-requires
of_valid-requires c = least_external_IsName c.args.classes.now c.in-Some.name.now c.requires (sym c.in-Some.ensures)
