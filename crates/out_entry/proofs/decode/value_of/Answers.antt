use Rattle.serde_json.specs.View.{view}
use Rattle.value_text.specs.Short.{as_short}
use Rattle.out_entry.proofs.Members.{value_json, value_found}
use Rattle.out_entry.proofs.decode.value_of.Goals as goal

pub returns-in_ok-from_json-in-Some-clause-found : goal.returns-in_ok-from_json-in-Some-clause-found
returns-in_ok-from_json-in-Some-clause-found c entry parts is shallow =
    let stored = value_json entry (view c.args.json.now) (view c.in-Some.value.now) is c.in-Some.ensures in
    value_found _ entry.value (c.in_ok-from_json-in-Some.ensures.found (as_short entry.value) parts.value shallow stored)
