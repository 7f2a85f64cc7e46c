use Rattle.std.proofs.Common.{rules}
use Rattle.std.proofs.lemmas.Fn.{filter_same}
use Rattle.class_verify.proofs.sweep.Sweep.prune.Goals as goal

pub returns-clause-going : goal.returns-clause-going
returns-clause-going c = filter_same _ _ _ (λ x b f' k. search rules) _ _ c.retain.ensures.filtered
