use Rattle.class_verify.proofs.Entries.{each_entry_is_told}
use Rattle.class_verify.proofs.laws.code_that_fits_begins.Goals as goal

pub returns-clause-kinds : goal.returns-clause-kinds
returns-clause-kinds c = each_entry_is_told
