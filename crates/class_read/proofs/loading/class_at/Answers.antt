use Rattle.class_read.proofs.ClassFileLemmas.{read_again}
use Rattle.class_read.proofs.loading.class_at.Goals as goal

pub returns-in-Ok-clause-read : goal.returns-in-Ok-clause-read
returns-in-Ok-clause-read c = rw c.as_slice.ensures at (read_again c.as_slice.result.now c.in-Ok.class c.in-Ok.ensures.found)
