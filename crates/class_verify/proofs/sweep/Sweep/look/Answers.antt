use Rattle.std.proofs.Common.{◌≡◌, true}
use Rattle.std.specs.List.{list_all}
use Rattle.class_verify.specs.Kinds.{all_fit}
use Rattle.class_verify.specs.Ready.{plain}
use Rattle.class_verify.specs.Sweeps.{is_kept}
use Rattle.class_verify.proofs.Pruning.{swept_on, judged}
use Rattle.class_verify.proofs.Sweeping.{looked}
use Rattle.class_verify.proofs.sweep.Sweep.look.Goals as goal

pub returns-then-all_keep : goal.returns-then-all_keep
returns-then-all_keep c =
    let fit : all_fit c.args.locals.now c.weaken_at.new.self ≡ true = cc in
    let kept : list_all (is_kept c.args.body.now.code.now c.args.body.now.frames c.args.pc c.weaken_at.new.self) c.prune.new.self.going.items ≡ true = cc in
    looked (plain c.args.body.now) (record c.prune.new.self { known = c.weaken_at.new.self }) c.args.pc c.args.locals.now
    (swept_on (plain c.args.body.now) c.args.self.now c.prune.new.self c.args.pc c.requires.swept c.prune.ensures.going c.prune.ensures.ranges c.prune.ensures.begun)
    fit kept

pub returns : goal.returns
returns c =
    judged (plain c.args.body.now) (record c.prune.new.self { known = c.copy_from.new.self }) c.args.pc c.args.locals.now c.all_keep-2.result
    (swept_on (plain c.args.body.now) c.args.self.now c.prune.new.self c.args.pc c.requires.swept c.prune.ensures.going c.prune.ensures.ranges c.prune.ensures.begun)
    c.in_ok-copy_from.ensures c.all_keep-2.ensures
