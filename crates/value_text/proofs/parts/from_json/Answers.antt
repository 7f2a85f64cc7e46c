use Rattle.serde_json.specs.View.{view}
use Rattle.value_text.proofs.Stored.{finds_stored}
use Rattle.value_text.proofs.parts.from_json.Goals as goal

pub returns-clause-found : goal.returns-clause-found
returns-clause-found c = finds_stored 64 (view c.args.json.now) _ c.in_ok-decode.ensures
