use Rattle.class_code.proofs.bootstraps.is_metafactory.Goals as goal

pub returns : goal.returns
returns c = c.is_bootstrap_by.ensures
