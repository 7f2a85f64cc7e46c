use Rattle.class_code.proofs.bootstraps.is_concatenating.Goals as goal

pub returns : goal.returns
returns c = c.is_bootstrap_by.ensures
