use Rattle.std.proofs.Common.{◌+◌, drop, sym, ◌∙◌, arith}
use Rattle.class_code.specs.Codes.{stack_map_in}
use Rattle.class_code.proofs.Codes.{map_step}
use Rattle.class_code.proofs.code.stack_map.Goals as goal

pub returns-in-Some : goal.returns-in-Some
returns-in-Some c =
    sym (c.in-Some.ensures (stack_map_in (drop (c.loop-attribute.attribute-index + 1) c.args.attributes.now)))
    ∙ sym (map_step c.args.attributes.now c.loop-attribute.attribute-index c.attribute-item.result (omega arith) c.attribute-item.is)
    ∙ c.loop-attribute.invariant

pub loop-attribute-preserved : goal.loop-attribute-preserved
loop-attribute-preserved c =
    sym (c.in_default.ensures (stack_map_in (drop (c.loop-attribute.attribute-index + 1) c.args.attributes.now)))
    ∙ sym (map_step c.args.attributes.now c.loop-attribute.attribute-index c.attribute-item.result (omega arith) c.attribute-item.is)
    ∙ c.loop-attribute.invariant
