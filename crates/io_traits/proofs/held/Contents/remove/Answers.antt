use Rattle.std.proofs.Common.{sym, ◌∙◌}
use Rattle.io_traits.proofs.Places.{remove_at, remove_gap, IsInOrder-remove}
use Rattle.io_traits.proofs.held.Contents.remove.Goals as goal

-- the file at the name's place is taken out, and the others stay in order
pub invariant_of-self : goal.invariant_of-self
invariant_of-self c = rw (c.remove.ensures.items, remove_at c.self.inside.files.items c.args.name.now c.in-Ok.at (rw c.self.view_is c.in-Ok.ensures)) (IsInOrder-remove c.self.inside.files.items c.args.name.now c.self.invariant)

pub returns-in-Ok : goal.returns-in-Ok
returns-in-Ok c = rw (← c.self.view_is) (c.remove.ensures.items ∙ remove_at c.self.inside.files.items c.args.name.now c.in-Ok.at (rw c.self.view_is c.in-Ok.ensures))

-- the name was not there
pub returns-in_default : goal.returns-in_default
returns-in_default c = sym (remove_gap c.args.self.now c.args.name.now c.in_default.field-0 c.in_default.ensures)
