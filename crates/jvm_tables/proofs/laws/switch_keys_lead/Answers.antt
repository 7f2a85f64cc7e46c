use Rattle.jvm_tables.proofs.Keys.{key_leads, others_lead}
use Rattle.jvm_tables.proofs.laws.switch_keys_lead.Goals as goal

pub returns-clause-keys : goal.returns-clause-keys
returns-clause-keys c = key_leads

pub returns-clause-others : goal.returns-clause-others
returns-clause-others c = others_lead
