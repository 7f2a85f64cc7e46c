use Rattle.std.proofs.Common.{ℕ, suc, ◌≡◌, ◌+◌, ◌-◌, List, length, sym, ◌∙◌, ap, arith}
use Rattle.class_model.specs.Units.{units_at}
use Rattle.task_annotations.proofs.Units.{put, no_unit, no_round, read_on}
use Rattle.task_annotations.proofs.spelled.units_of.Goals as goal

pub returns-in-None : goal.returns-in-None
returns-in-None c =
    c.ended.ensures ∙ no_unit c.loop-i.units.items (length c.args.bytes.now - c.loop-i.i) c.loop-i.rest.now (sym c.in-None.ensures.value)
    ∙ sym c.loop-i.invariant

pub loop-i-preserved : goal.loop-i-preserved
loop-i-preserved c =
    let left : length c.args.bytes.now - c.loop-i.i ≡ suc (length c.args.bytes.now - (c.loop-i.i + 1)) = omega (arith, c.loop-i-test.true) in
    c.loop-i.invariant
    ∙ ap (λ (n : ℕ). put c.loop-i.units.items (units_at n c.loop-i.rest.now)) left
    ∙ read_on c.loop-i.units.items (length c.args.bytes.now - (c.loop-i.i + 1)) c.in-Some.unit c.loop-i.rest.now c.in-Some.more.now (sym c.in-Some.ensures.value)
    ∙ ap (λ (us : List ℕ). put us (units_at (length c.args.bytes.now - (c.loop-i.i + 1)) c.in-Some.more.now)) (sym c.in_ok-push-in-Some.ensures.items)

pub returns : goal.returns
returns c =
    let none_left : 0 ≡ length c.args.bytes.now - c.loop-i.i = omega (arith, c.loop-i-test.false) in
    c.ended-2.ensures
    ∙ no_round c.loop-i.units.items c.loop-i.rest.now
    ∙ ap (λ (n : ℕ). put c.loop-i.units.items (units_at n c.loop-i.rest.now)) none_left
    ∙ sym c.loop-i.invariant
