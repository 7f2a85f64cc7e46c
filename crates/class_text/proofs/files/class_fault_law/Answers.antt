use Rattle.class_text.proofs.ClassTells.{class_meant, class_lengthened}
use Rattle.class_text.proofs.files.class_fault_law.Goals as goal

pub returns-clause-says : goal.returns-clause-says
returns-clause-says c = class_meant

pub returns-clause-lengthened : goal.returns-clause-lengthened
returns-clause-lengthened c = class_lengthened
