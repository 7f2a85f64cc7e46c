use Rattle.std.proofs.Common.{sym, ◌∙◌}
use Rattle.jvm_heap.proofs.Places.{can_change-there, Enlarges-full, Enlarges-done, Enlarges-wanting}
use Rattle.jvm_heap.proofs.heap.Heap.append.Goals as goal

pub append-requires : goal.append-requires
append-requires c =
    can_change-there _ _ _ _ _ _ c.self.view_is c.place-at.ensures.next c.place-at.ensures.within c.index_mut.ensures.value c.requires

pub returns-then-not-has_room : goal.returns-then-not-has_room
returns-then-not-has_room c = Enlarges-full _ _ _ _ (sym c.has_room.ensures ∙ c.if-not-has_room.true)

pub returns-in-Ok : goal.returns-in-Ok
returns-in-Ok c =
    Enlarges-done _ _ _ _ _ _ _ _ c.self.view_is c.place-at.ensures.next c.place-at.ensures.within c.index_mut.ensures.value c.in-Ok.ensures.ok (sym c.has_room.ensures ∙ c.if-not-has_room.false)

pub returns-in-Err : goal.returns-in-Err
returns-in-Err c = Enlarges-wanting _ _ _ _ _ _ _ _ c.self.view_is c.index_mut.ensures.value c.in-Err.ensures.err c.requires (sym c.has_room.ensures ∙ c.if-not-has_room.false)
