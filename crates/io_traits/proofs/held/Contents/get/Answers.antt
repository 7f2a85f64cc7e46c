use Rattle.std.proofs.Common.{Some, sym, ap, ◌∙◌}
use Rattle.io_traits.specs.Files.{File}
use Rattle.io_traits.proofs.Places.{get_at, get_gap}
use Rattle.io_traits.proofs.held.Contents.get.Goals as goal

-- the file at the name's place is the one that was read
pub returns-in-Ok : goal.returns-in-Ok
returns-in-Ok c = rw (← c.self.view_is) (ap (λ (file : File). Some file.1) c.index.ensures ∙ sym (get_at c.self.inside.files.items c.args.name.now c.in-Ok.at (rw c.self.view_is c.in-Ok.ensures) c.index.result.now))

pub returns-in-Err : goal.returns-in-Err
returns-in-Err c = sym (get_gap c.args.self.now c.args.name.now c.in-Err.field-0 c.in-Err.ensures)
