use Rattle.std.proofs.Common.{◌≡◌, ◌≤◌, drop, IfSome, FitsSigned}
use Rattle.std.specs.Int.{w32}
use Rattle.mill_top.specs.Walks.{IsWalked}
use Rattle.mill_top.proofs.evaluating.take_all.Given as goal

abbrev pub invariant-loop-file : goal.invariant-loop-file
invariant-loop-file g l = record {
  walked : IsWalked l.inputs l.plan l.initial.out.numbers l.out.numbers (g.S.Store.content l.initial.out.store) (g.S.Store.content l.out.store) l.takes (drop l.file-index l.plan) l.given;
  fits : IfSome l.given (FitsSigned w32);
  later : g.S.Store.faults l.initial.out.store ≤ g.S.Store.faults l.out.store;
  kept : g.S.Store.kept l.out.store ≡ g.S.Store.kept l.initial.out.store;
  plan : g.S.Store.plan l.out.store ≡ g.S.Store.plan l.initial.out.store;
}
