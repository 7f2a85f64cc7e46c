use Rattle.std.proofs.Common.{◌≡◌, ◌≤◌, take}
use Rattle.out_store.specs.Changes.{takes_out}
use Rattle.out_store.proofs.removing.remove_all.Given as goal

abbrev pub invariant-loop-name : goal.invariant-loop-name
invariant-loop-name g l = record {
  content : g.S.Store.content l.store ≡ takes_out (take l.name-index l.names) (g.S.Store.content l.initial.store);
  later : g.S.Store.faults l.initial.store ≤ g.S.Store.faults l.store;
  kept : g.S.Store.kept l.store ≡ g.S.Store.kept l.initial.store;
  plan : g.S.Store.plan l.store ≡ g.S.Store.plan l.initial.store;
}
