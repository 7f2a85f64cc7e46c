use Rattle.std.proofs.Common.{ap, ◌∙◌}
use Rattle.serde_json.specs.View.{view}
use Rattle.value_text.specs.Decoded.{digest_of}
use Rattle.value_text.proofs.Stored.{digest_of-encode_lower}
use Rattle.out_entry.proofs.Members.{input_text}
use Rattle.out_entry.proofs.decode.input_of.Goals as goal

pub returns : goal.returns
returns c entry parts is =
    let same = input_text entry (view c.args.json.now) c.in_ok-member_text.field-0.now is c.in_ok-member_text.ensures in
    c.digest_of.ensures ∙ ap digest_of same ∙ digest_of-encode_lower entry.input parts.input
