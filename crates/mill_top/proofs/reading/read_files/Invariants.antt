use Rattle.std.proofs.Common.{◌≡◌, ◌≤◌, ◌++◌, take, drop, IfSome}
use Rattle.io_traits.specs.Files.{names, IsInOrder}
use Rattle.mill_top.proofs.reading.read_files.Given as goal

abbrev pub invariant-loop-name : goal.invariant-loop-name
invariant-loop-name g l = record {
  content : g.W.Workspace.content l.workspace ≡ g.W.Workspace.content l.initial.workspace;
  later : g.W.Workspace.faults l.initial.workspace ≤ g.W.Workspace.faults l.workspace;
  kept : g.W.Workspace.kept l.workspace ≡ g.W.Workspace.kept l.initial.workspace;
  plan : g.W.Workspace.plan l.workspace ≡ g.W.Workspace.plan l.initial.workspace;
  order : IsInOrder (names l.files.items ++ drop l.name-index l.name-items);
  files : IfSome (g.W.Workspace.content l.initial.workspace) (λ told. l.files.items ≡ take l.name-index told);
}
