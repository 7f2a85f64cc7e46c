use Rattle.class_text.proofs.ClassLaws.{class_taken, class_again, class_once}
use Rattle.class_text.proofs.files.class_laws.Goals as goal

pub returns-clause-taken : goal.returns-clause-taken
returns-clause-taken c = class_taken

pub returns-clause-again : goal.returns-clause-again
returns-clause-again c = class_again

pub returns-clause-once : goal.returns-clause-once
returns-clause-once c = class_once
