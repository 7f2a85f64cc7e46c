use Rattle.std.proofs.Common.{◌≡◌, ◌+◌, ◌<◌, true, false, length, refl, subst, arith}
use Rattle.std.specs.List.{list_all}
use Rattle.class_verify.specs.Frames.{frame_at}
use Rattle.class_verify.specs.Ready.{plain}
use Rattle.class_verify.specs.Sweeps.{is_kept}
use Rattle.class_verify.specs.Targets.{is_caught}
use Rattle.class_verify.proofs.Sweeping.{next_within, admitted, refused}
use Rattle.class_verify.proofs.sweep.Sweep.admit.Goals as goal

pub overflow_add-self : goal.overflow_add-self
overflow_add-self c =
    let inside : c.args.self.now.begun < length c.args.self.now.ranges.items = next_within c.args.self.now.ranges.items c.args.self.now.begun c.args.pc c.args.range c.requires.next in
    omega (arith, c.args.self.now.ranges.small, c.args.self.now.ranges.ok)

pub returns-then-not-is_caught-clause-met : goal.returns-then-not-is_caught-clause-met
returns-then-not-is_caught-clause-met c =
    let on : c.args.pc < c.args.range.end = omega arith in
    let fails : is_caught c.args.locals.now (frame_at c.args.body.now.code.now c.args.body.now.frames c.args.range.handler) ≡ false = cc in
    refused (plain c.args.body.now) c.args.self.now c.args.pc c.args.locals.now c.args.range c.requires.met c.requires.next on fails

pub returns-clause-met : goal.returns-clause-met
returns-clause-met c =
    let caught : is_caught c.args.locals.now (frame_at c.args.body.now.code.now c.args.body.now.frames c.args.range.handler) ≡ true = cc in
    let same : c.from-3.result ≡ c.args.range.handler = omega arith in
    let too : is_caught c.keep_known.new.known (frame_at c.args.body.now.code.now c.args.body.now.frames c.args.range.handler) ≡ true =
    subst (λ n. is_caught c.keep_known.new.known (frame_at c.args.body.now.code.now c.args.body.now.frames n) ≡ true) same c.in_ok-keep_known.ensures.caught in
    admitted (plain c.args.body.now) c.args.self.now
    (record c.args.self.now { begun = c.args.self.now.begun + 1; going = c.push.new.self; known = c.keep_known.new.known }) c.args.pc c.args.locals.now
    c.args.range c.requires.met c.requires.next caught refl refl c.in_ok-push.ensures.items
    (c.in_ok-keep_known.ensures.either (λ ks. list_all (is_kept c.args.body.now.code.now c.args.body.now.frames c.args.pc ks) c.args.self.now.going.items)
    c.requires.met.known c.requires.met.kept) too
