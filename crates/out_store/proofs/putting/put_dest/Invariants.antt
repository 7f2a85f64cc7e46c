use Rattle.std.proofs.Common.{◌≡◌, ◌≤◌, take}
use Rattle.out_store.specs.Changes.{puts_in}
use Rattle.out_store.specs.Publishing.{dest_puts}
use Rattle.out_store.proofs.putting.put_dest.Given as goal

abbrev pub invariant-loop-path : goal.invariant-loop-path
invariant-loop-path g l = record {
  content : g.S.Store.content l.store ≡ puts_in (dest_puts l.task l.number (take l.path-index l.files)) (g.S.Store.content l.initial.store);
  later : g.S.Store.faults l.initial.store ≤ g.S.Store.faults l.store;
  kept : g.S.Store.kept l.store ≡ g.S.Store.kept l.initial.store;
  plan : g.S.Store.plan l.store ≡ g.S.Store.plan l.initial.store;
}
