use Rattle.std.proofs.Common.{take}
use Rattle.out_store.specs.Opening.{AreLoose}
use Rattle.out_store.proofs.opening.loose_names.Given as goal

abbrev pub invariant-loop-name : goal.invariant-loop-name
invariant-loop-name l = AreLoose l.numbers (take l.name-index l.listed) l.gone.items
