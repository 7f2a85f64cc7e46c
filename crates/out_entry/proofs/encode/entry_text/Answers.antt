use Rattle.std.proofs.Common.{ap, ◌∙◌}
use Rattle.serde_json.specs.Written.{compact_text, has_float}
use Rattle.out_entry.proofs.EntryText.{has_float-entry_json}
use Rattle.out_entry.proofs.encode.entry_text.Goals as goal

pub returns-clause-text : goal.returns-clause-text
returns-clause-text c =
    let same = c.in_ok-entry_json.ensures.json in
    c.in_ok-to_string.ensures.text (ap has_float same ∙ has_float-entry_json c.args.entry.now) ∙ ap compact_text same
