use Rattle.class_text.proofs.ClassPlaces.{class_good, class_shorter, class_within}
use Rattle.class_text.proofs.ClassStops.{class_stops}
use Rattle.class_text.proofs.files.class_place_law.Goals as goal

pub returns-clause-good : goal.returns-clause-good
returns-clause-good c = class_good

pub returns-clause-shorter : goal.returns-clause-shorter
returns-clause-shorter c = class_shorter

pub returns-clause-stops : goal.returns-clause-stops
returns-clause-stops c = class_stops

pub returns-clause-within : goal.returns-clause-within
returns-clause-within c = class_within
