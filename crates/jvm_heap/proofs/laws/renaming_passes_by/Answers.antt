use Rattle.jvm_heap.proofs.Renamed.{objects_renamed, heaps_renamed}
use Rattle.jvm_heap.proofs.laws.renaming_passes_by.Goals as goal

pub returns-clause-objects : goal.returns-clause-objects
returns-clause-objects g c = objects_renamed

pub returns-clause-heaps : goal.returns-clause-heaps
returns-clause-heaps g c = heaps_renamed
