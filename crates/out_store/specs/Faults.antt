-- Why a call of the store of results may refuse: a fault comes only where the store's count of faults rose in the call.
use Rattle.std.specs.Prelude.{ℕ, ◌≤◌, Result, IsErrOf}
use Rattle.io_traits.specs.Causes.{Rose}
use Rattle.io_traits.specs.declared.faults.IoFault.{IoFault}
use Rattle.io_traits.specs.declared.faults.IoFault.TheVariants as io
use Rattle.out_store.specs.declared.fault.OutFault.{OutFault}
use Rattle.out_store.specs.declared.fault.OutFault.TheVariants.{Fault, Memory}

-- the fault of the store's own call
abbrev pub fault_of : IoFault → OutFault
fault_of io.Failed = Fault
fault_of io.Memory = Memory

-- the count never falls, and a fault is answered only where it rose
pub record HasCause {T : Type 0} (before now : ℕ) (result : Result T OutFault) : Type 0 where
  pub later : before ≤ now
  pub fault : IsErrOf result Fault → Rose before now
