use Rattle.std.proofs.Common.{arith, sym, ap, ◌∙◌, map}
use Rattle.std.proofs.lemmas.List.{take_all}
use Rattle.serde_json.specs.View as json
use Rattle.value_text.specs.Short.{as_short}
use Rattle.value_text.specs.Texts.{json_of}
use Rattle.value_text.proofs.Shorts.{items_of-shorts_of, AreShort-shorts_of}
use Rattle.value_text.proofs.encode.+encode.Goals as goal

pub encode_all-returns-clause-items : goal.encode_all-returns-clause-items
encode_all-returns-clause-items t c =
    let all = take_all c.loop-value.value-index c.args.values.now (omega arith) in
    ap json.items_of (c.loop-value.invariant.items ∙ ap (map (λ v. json_of c.args.form (as_short v))) all)
    ∙ sym (items_of-shorts_of c.args.form c.args.values.now)

pub encode_all-returns-clause-values : goal.encode_all-returns-clause-values
encode_all-returns-clause-values t c = AreShort-shorts_of c.args.values.now (λ k d within. c.loop-value.invariant.values k d (omega arith))
