use Rattle.std.proofs.Common.{◌≡◌, take}
use Rattle.io_traits.proofs.held.copy_files.Given as goal

abbrev pub invariant-loop-name : goal.invariant-loop-name
invariant-loop-name l = l.copies.items ≡ take l.name-index l.files
