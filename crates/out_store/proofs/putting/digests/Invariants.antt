use Rattle.std.proofs.Common.{◌≡◌, take}
use Rattle.out_store.specs.Publishing.{digests}
use Rattle.out_store.proofs.putting.digests.Given as goal

abbrev pub invariant-loop-path : goal.invariant-loop-path
invariant-loop-path l = l.found.items ≡ digests (take l.path-index l.files)
