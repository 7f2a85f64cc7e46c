use Rattle.std.proofs.Common.{◌≡◌, ◌≤◌, take, Some}
use Rattle.io_traits.specs.Files.{Files, names}
use Rattle.out_store.specs.Opened.{AreKeptUnder}
use Rattle.out_store.specs.Opening.{AreRead, Covers, NoneTaken}
use Rattle.out_store.proofs.opening.read_entries.Given as goal

abbrev pub invariant-loop-name : goal.invariant-loop-name
invariant-loop-name g l = record {
  read : (files : Files) → g.S.Store.content l.initial.store ≡ Some files → AreRead files l.numbers;
  covers : (files : Files) → g.S.Store.content l.initial.store ≡ Some files → Covers files l.numbers (take l.name-index l.listed);
  entries : (files : Files) → g.S.Store.content l.initial.store ≡ Some files → l.listed ≡ names files → AreKeptUnder files (take l.name-index l.listed) l.entries.items;
  taken : NoneTaken l.numbers;
  content : g.S.Store.content l.store ≡ g.S.Store.content l.initial.store;
  later : g.S.Store.faults l.initial.store ≤ g.S.Store.faults l.store;
  kept : g.S.Store.kept l.store ≡ g.S.Store.kept l.initial.store;
  plan : g.S.Store.plan l.store ≡ g.S.Store.plan l.initial.store;
}
