use Rattle.std.proofs.Common.{◌≡◌, ◌++◌, drop}
use Rattle.class_verify.specs.LocalTypes.{AreTold}
use Rattle.class_verify.proofs.local_types.LocalTypes.extend.Given as goal

abbrev pub invariant-loop-t : goal.invariant-loop-t
invariant-loop-t l = record {
  told : AreTold l.self;
  types : l.self.types.items ++ drop l.t-index l.types ≡ l.initial.self.types.items ++ l.types;
}
