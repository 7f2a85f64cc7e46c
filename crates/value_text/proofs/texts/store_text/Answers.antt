use Rattle.value_text.proofs.Stored.{stored_text-injective}
use Rattle.value_text.proofs.texts.store_text.Goals as goal

pub returns-clause-injective : goal.returns-clause-injective
returns-clause-injective c v valid same = stored_text-injective v _ valid c.in_ok-text.ensures.value same
