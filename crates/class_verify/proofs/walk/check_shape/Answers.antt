use Rattle.std.proofs.Common.{◌≡◌, Bool, true, Some, None, subst, arith}
use Rattle.std.specs.Prelude.{MatchBool}
use Rattle.std.specs.Bool.{OnTrue}
use Rattle.class_verify.specs.Effects.{left}
use Rattle.class_verify.specs.Ready.{plain}
use Rattle.class_verify.specs.Sweeps.{IsSettled, IsMet}
use Rattle.class_verify.proofs.Sweeping.{follows, on_true}
use Rattle.class_verify.proofs.walk.check_shape.Goals as goal

pub returns-then-targets_accept-clause-met : goal.returns-then-targets_accept-clause-met
returns-then-targets_accept-clause-met c =
    let caught : c.in_ok-all_catch.field-0 ≡ true = first_of (cc, grind arith) in
    let is_there : c.in_ok-leave.field-0 ≡ true = first_of (cc, grind arith) in
    let S : Bool → Type 0 = λ b. OnTrue b (IsSettled (plain c.args.body.now) c.all_catch.new.self c.args.instr.now.pc c.args.shape.now.locals) in
    let L : Bool → Type 0 = λ b. MatchBool b
    (left c.args.body.now.class.now c.args.body.now.limits.stack c.args.row.now c.args.instr.now c.args.shape.now ≡ Some c.leave.new.shape)
    (left c.args.body.now.class.now c.args.body.now.limits.stack c.args.row.now c.args.instr.now c.args.shape.now ≡ None) in
    on_true c.ends_well.result (IsMet (plain c.args.body.now) c.follow.new.self c.args.instr.now.pc c.leave.new.shape.locals)
    (follows (plain c.args.body.now) c.all_catch.new.self c.follow.new.self c.args.instr.now.pc _ c.args.body.now.class.now c.args.body.now.limits.stack
    c.args.row.now c.args.instr.now c.args.shape.now c.leave.new.shape (subst S caught c.in_ok-all_catch.ensures.met)
    (subst L is_there c.in_ok-leave.ensures) c.follow.ensures)
