use Rattle.std.proofs.Common.{◌≡◌, ◌-◌, length, take}
use Rattle.class_verify.specs.LocalTypes.{AreTold}
use Rattle.class_verify.proofs.local_types.LocalTypes.truncate.Given as goal

abbrev pub invariant-loop-self : goal.invariant-loop-self
invariant-loop-self l = record {
  told : AreTold l.self;
  types : take l.most l.self.types.items ≡ take l.most l.initial.self.types.items;
}

abbrev pub decreases-loop-self : goal.decreases-loop-self
decreases-loop-self l = length l.self.types.items - l.most
