use Rattle.class_text.proofs.ClassLaws.{class_stays, none_class}
use Rattle.class_text.proofs.files.class_continued_law.Goals as goal

pub returns-clause-stays : goal.returns-clause-stays
returns-clause-stays c = class_stays

pub returns-clause-none : goal.returns-clause-none
returns-clause-none c = none_class
