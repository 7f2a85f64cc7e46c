use Rattle.std.proofs.Common.{◌≡◌, ◌-◌, suc, [], ◌∷◌, ◌++◌, sym, ap, ◌∙◌, arith}
use Rattle.mill_top.proofs.GraphLaws.{upstream-constant, pushed_behind}
use Rattle.mill_top.proofs.graph.Graph.+push_upstream.Goals as goal
use Rattle.mill_top.proofs.graph.Graph.+push_upstream.Goals.{in-Constant, in-Linked+in_ok-push_upstream-in-Linked}

pub returns-in_ok-push : goal.returns-in_ok-push
returns-in_ok-push t c =
    let within : c.args.steps ≡ suc (c.args.steps - 1) = omega arith in
    let has = sym c.file_with.ensures ∙ c.in-Some.is in
    let pushed = c.in_ok-push.ensures.items in
    elim c.match-file.branch [
      | in-Constant w ↦
          pushed
          ∙ ap (λ plan. plan.items ++ c.in-Some.file ∷ []) w.plan-is
          ∙ ap (λ files. c.args.plan.now.items ++ files) (sym (upstream-constant c.args.self.now c.args.steps (c.args.steps - 1) c.args.task c.in-Some.file _ within has w.in-Constant.is))
      | in-Linked+in_ok-push_upstream-in-Linked w ↦
          pushed_behind c.args.self.now c.args.steps (c.args.steps - 1) c.args.task c.in-Some.file _ _ _ c.args.plan.now.items c.match-file.plan.items c.push.new.self.items
          within has w.in-Linked.is (ap (λ plan. plan.items) w.plan-is ∙ w.in_ok-push_upstream-in-Linked.ensures) pushed
    ]
