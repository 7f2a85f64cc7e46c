use Rattle.std.proofs.Common.{ap, ◌∙◌}
use Rattle.serde_json.specs.Written.{compact_text, has_float}
use Rattle.value_text.specs.Short.{as_short}
use Rattle.value_text.proofs.Stored.{has_float-json_of}
use Rattle.value_text.proofs.texts.text_of.Goals as goal

pub returns-clause-text : goal.returns-clause-text
returns-clause-text c =
    let same = c.in_ok-encode.ensures.json in
    c.in_ok-to_string.ensures.text (ap has_float same ∙ has_float-json_of c.args.form (as_short c.args.value.now)) ∙ ap compact_text same
