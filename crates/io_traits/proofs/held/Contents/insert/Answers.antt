use Rattle.io_traits.proofs.Places.{insert_over, insert_gap, IsInOrder-insert}
use Rattle.io_traits.proofs.held.Contents.insert.Goals as goal

-- the file that has the name keeps its place
pub invariant_of-self : goal.invariant_of-self
invariant_of-self c =
    rw (insert_over c.self.inside.files.items c.args.name.now c.in_ok-bytes.bytes c.in-Ok.at (rw c.self.view_is c.in-Ok.ensures) c.index_mut.result.now c.index_mut.ensures.value)
    (IsInOrder-insert c.self.inside.files.items c.args.name.now c.in_ok-bytes.bytes c.self.invariant)

pub returns-in-Ok-clause-ok : goal.returns-in-Ok-clause-ok
returns-in-Ok-clause-ok c =
    rw (← c.self.view_is, ← c.in_ok-bytes.ensures)
    (insert_over c.self.inside.files.items c.args.name.now c.in_ok-bytes.bytes c.in-Ok.at (rw c.self.view_is c.in-Ok.ensures) c.index_mut.result.now c.index_mut.ensures.value)

-- the file goes into the gap
pub invariant_of-self-in-Err : goal.invariant_of-self-in-Err
invariant_of-self-in-Err c =
    rw (c.in_ok-insert-in-Err.ensures.items, c.in_ok-copy-in-Err.ensures, insert_gap c.self.inside.files.items c.args.name.now c.in_ok-bytes.bytes c.in-Err.at (rw c.self.view_is c.in-Err.ensures))
    (IsInOrder-insert c.self.inside.files.items c.args.name.now c.in_ok-bytes.bytes c.self.invariant)

pub returns-in_ok-insert-in-Err-clause-ok : goal.returns-in_ok-insert-in-Err-clause-ok
returns-in_ok-insert-in-Err-clause-ok c =
    rw (c.in_ok-insert-in-Err.ensures.items, c.in_ok-copy-in-Err.ensures, ← c.self.view_is, ← c.in_ok-bytes.ensures)
    (insert_gap c.self.inside.files.items c.args.name.now c.in_ok-bytes.bytes c.in-Err.at (rw c.self.view_is c.in-Err.ensures))
