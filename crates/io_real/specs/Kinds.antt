-- What an error of the system is for an adapter, by its kind.
use Rattle.std.specs.Prelude.{Bool, true, false}
use Rattle.std.specs.declared.io.ErrorKind.{ErrorKind}
use Rattle.std.specs.declared.io.ErrorKind.TheVariants.{NotFound, NotADirectory, FilesystemLoop, OutOfMemory, Interrupted, WouldBlock}
use Rattle.io_traits.specs.declared.faults.IoFault.{IoFault}
use Rattle.io_traits.specs.declared.faults.IoFault.TheVariants.{Failed, Memory}

-- nothing stands at the place: no such name, a file in place of a folder on the way, or links in a circle
abbrev pub is_absence : ErrorKind → Bool
is_absence NotFound = true
is_absence NotADirectory = true
is_absence FilesystemLoop = true
is_absence kind = false

-- the call did nothing yet and is to be tried again: a signal came, or the other end is not ready
abbrev pub is_passing : ErrorKind → Bool
is_passing Interrupted = true
is_passing WouldBlock = true
is_passing kind = false

-- want of memory, or a failure
abbrev pub fault_of : ErrorKind → IoFault
fault_of OutOfMemory = Memory
fault_of kind = Failed
