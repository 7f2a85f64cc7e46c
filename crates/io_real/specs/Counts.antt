-- How an adapter counts its faults.
use Rattle.std.specs.Prelude.{ℕ, Result, Ok, Err}
use Rattle.io_traits.specs.Causes.{one_more}
use Rattle.io_traits.specs.declared.faults.IoFault.{IoFault}
use Rattle.io_traits.specs.declared.faults.IoFault.TheVariants.{Failed, Memory}
use Rattle.io_real.specs.declared.counts.FaultCount.{FaultCount}

-- the counts of an adapter that was just made
abbrev pub no_faults : FaultCount
no_faults = record { now = 0; kept = 0 }

-- the counts after an answer: one more fault after a failure, and else as they were
abbrev pub settled : {T : Type 0} → Result T IoFault → FaultCount → FaultCount
settled (Ok x) count = count
settled (Err Failed) count = record count { now = one_more count.now }
settled (Err Memory) count = count

-- the counts with the present one kept
abbrev pub kept_now : FaultCount → FaultCount
kept_now count = record count { kept = count.now }
