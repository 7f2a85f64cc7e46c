use Rattle.class_model.proofs.TextLemmas.{is_text-grammar, same_answer}
use Rattle.class_model.proofs.modified_utf8.is_modified_utf8.Goals as goal

pub returns-clause-value : goal.returns-clause-value
returns-clause-value c = same_answer _ _ c.spells_units.ensures (is_text-grammar c.args.bytes.now)
