use Rattle.class_model.proofs.NameOfClass.{class_name-IsName}
use Rattle.class_index.proofs.outline.outline_of.Goals as goal

pub of_valid-requires : goal.of_valid-requires
of_valid-requires c = rw c.name.ensures (class_name-IsName c.args.class.now c.requires)
