use Rattle.std.proofs.Common.{◌≡◌, take}
use Rattle.std.specs.List.{list_all}
use Rattle.class_verify.specs.Kinds.{is_top}
use Rattle.class_verify.proofs.shared_kinds.all_top.Given as goal

abbrev pub invariant-loop-kind : goal.invariant-loop-kind
invariant-loop-kind l = l.top ≡ list_all is_top (take l.kind-index l.kinds)
