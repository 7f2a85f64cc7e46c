use Rattle.std.proofs.Common.{◌≡◌, ◌<◌, ◌-◌, length}
use Rattle.class_index.specs.Members.{wanted_method}
use Rattle.class_index.specs.Lookups.{nearest}
use Rattle.class_index.proofs.lookup.nearest.Given as goal

abbrev pub invariant-loop : goal.invariant-loop
invariant-loop l =
    (l.place < length l.all)
    × (nearest (wanted_method l.own l.all l.name l.descriptor l.wanted) l.supers (length l.all - l.counter) l.place
    ≡ nearest (wanted_method l.own l.all l.name l.descriptor l.wanted) l.supers (length l.all) l.from)
