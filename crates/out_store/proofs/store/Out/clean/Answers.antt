use Rattle.std.proofs.Common.{[], ◌∷◌}
use Rattle.out_store.proofs.CleanLaws.{either_way, left_at, two_names, clean_others, clean_stands, knows_out}
use Rattle.out_store.proofs.store.Out.clean.Goals as goal

pub returns-clause-others : goal.returns-clause-others
returns-clause-others g c =
    let old = g.S.Store.content c.args.self.now.store in
    let new = g.S.Store.content c.remove_two.new.store in
    let left = either_way c.remove_two.result (c.in_ok-entry.entry ∷ c.in_ok-log.log ∷ []) old new c.remove_two.ensures.ok c.remove_two.ensures.err in
    clean_others c.args.task.now old new (left_at _ _ old new (two_names _ _ _ _ c.in_ok-entry.ensures c.in_ok-log.ensures) left)

pub returns-clause-knows : goal.returns-clause-knows
returns-clause-knows g c knows =
    let old = g.S.Store.content c.args.self.now.store in
    let new = g.S.Store.content c.remove_two.new.store in
    let left = either_way c.remove_two.result (c.in_ok-entry.entry ∷ c.in_ok-log.log ∷ []) old new c.remove_two.ensures.ok c.remove_two.ensures.err in
    knows_out c.args.self.now.numbers (c.in_ok-entry.entry ∷ c.in_ok-log.log ∷ []) old new left knows

pub returns-clause-stands : goal.returns-clause-stands
returns-clause-stands g c rows lost stands =
    let old = g.S.Store.content c.args.self.now.store in
    let new = g.S.Store.content c.remove_two.new.store in
    let left = either_way c.remove_two.result (c.in_ok-entry.entry ∷ c.in_ok-log.log ∷ []) old new c.remove_two.ensures.ok c.remove_two.ensures.err in
    clean_stands c.args.task.now old new (left_at _ _ old new (two_names _ _ _ _ c.in_ok-entry.ensures c.in_ok-log.ensures) left) rows lost c.requires stands
