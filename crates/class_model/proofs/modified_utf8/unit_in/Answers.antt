use Rattle.class_model.proofs.TextLemmas.{found_is_unit, none_is_no_unit}
use Rattle.class_model.proofs.modified_utf8.unit_in.Goals as goal

pub returns-clause-found : goal.returns-clause-found
returns-clause-found c = found_is_unit c.args.bytes.now c.read_unit.result c.read_unit.ensures

pub returns-clause-none : goal.returns-clause-none
returns-clause-none c = none_is_no_unit c.args.bytes.now c.read_unit.result c.read_unit.ensures
