use Rattle.std.proofs.Common.{sym, ◌∙◌}
use Rattle.native_model.specs.Ends.{progress_of}
use Rattle.list_natives.proofs.Listed.{none_told, all_listed}
use Rattle.list_natives.proofs.telling.list_units.Goals as goal

pub returns-then-not-all_told : goal.returns-then-not-all_told
returns-then-not-all_told g c =
    none_told c.args.elements.now (progress_of c.args.progress.now) c.args.world.now.world (sym c.if-not-all_told.ensures)

pub returns : goal.returns
returns g c =
    all_listed c.args.elements.now (progress_of c.args.progress.now) c.args.world.now.world _ _ (sym c.if-not-all_told.ensures) c.in_ok-units.ensures (c.from_vec.ensures ∙ c.in_ok-push.ensures.items)
