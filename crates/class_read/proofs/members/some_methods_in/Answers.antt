use Rattle.std.proofs.Common.{◌≡◌, List, [], ◌∷◌, ◌++◌, ap, ◌∙◌, arith}
use Rattle.class_model.specs.declared.class_file.Member.{Member}
use Rattle.class_text.specs.Classes.{method_at}
use Rattle.class_read.proofs.Lists.{started, next, refused, done}
use Rattle.class_read.proofs.members.some_methods_in.Goals as goal

pub loop-i-init : goal.loop-i-init
loop-i-init c = (
  started (method_at c.args.pool.now) c.in_ok-before.before.list c.args.count c.args.end c.args.bytes.now c.in_ok-before.ensures.none,
  rw c.in_ok-before.ensures.none (c.in_ok-before.ensures.seen c.args.pool.now),
)

pub returns-in-Err : goal.returns-in-Err
returns-in-Err c =
    refused (method_at c.args.pool.now) c.loop-i.before.list c.args.count c.loop-i.i c.args.end c.loop-i.rest.now c.in-Err.fault _ (omega arith) c.in-Err.ensures.read c.loop-i.invariant.0

pub loop-i-preserved : goal.loop-i-preserved
loop-i-preserved c =
    let pushed : c.push.new.self ≡ c.loop-i.before.list ++ c.in-Ok.item ∷ [] =
    c.in_ok-push-in-Ok.ensures.ok ∙ ap (λ (l : List Member). l ++ c.in-Ok.item ∷ []) c.in-Ok.ensures.list in
    rw pushed (
      next (method_at c.args.pool.now) c.loop-i.before.list c.args.count c.loop-i.i c.args.end c.loop-i.rest.now c.in-Ok.item c.in-Ok.more.now _ (omega arith) c.in-Ok.ensures.read c.loop-i.invariant.0,
      c.in-Ok.ensures.seen,
    )

pub returns : goal.returns
returns c =
    done (method_at c.args.pool.now) c.loop-i.before.list c.args.count c.loop-i.i c.args.end c.loop-i.rest.now _ (omega arith) c.loop-i.invariant.0
