use Rattle.const_pool.proofs.Places.{member_of_field, member_of_method}
use Rattle.const_pool.proofs.targets.is_member.Goals as goal

pub returns-then-tag-eq-FIELD_TAG : goal.returns-then-tag-eq-FIELD_TAG
returns-then-tag-eq-FIELD_TAG c =
    member_of_field c.args.pool.now c.args.tag c.args.class c.args.name_type _ c.if-tag-eq-FIELD_TAG.true c.if-not-is_class.ensures c.is_for_field.ensures

pub returns : goal.returns
returns c =
    member_of_method c.args.pool.now c.args.tag c.args.class c.args.name_type _ c.if-tag-eq-FIELD_TAG.false c.if-not-is_class.ensures c.is_for_method.ensures
