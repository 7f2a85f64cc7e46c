use Rattle.std.proofs.Common.{◌≡◌, take}
use Rattle.io_traits.specs.Files.{names}
use Rattle.io_traits.proofs.held.copy_names.Given as goal

abbrev pub invariant-loop-name : goal.invariant-loop-name
invariant-loop-name l = l.listed.items ≡ names (take l.name-index l.files)
