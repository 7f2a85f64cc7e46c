-- Why a device may refuse: a failure is answered only where its count of faults rose in the call.
use Rattle.std.specs.Prelude.{ℕ, ◌+◌, ◌-◌, ◌^◌, ◌≤◌, min, Result, IsErrOf}
use Rattle.io_traits.specs.declared.faults.IoFault.{IoFault}
use Rattle.io_traits.specs.declared.faults.IoFault.TheVariants.{Failed}

-- the last value of a count of 64 bits, where it stands still
abbrev pub last_count : ℕ
last_count = 2 ^ 64 - 1

-- a count with one more, which stands still at its last value
abbrev pub one_more : ℕ → ℕ
one_more count = min (count + 1) last_count

-- the count rose, or stands at its last value
abbrev pub Rose : ℕ → ℕ → Type 0
Rose before now = one_more before ≤ now

-- the count never falls, and a failure is answered only where it rose
pub record HasCause {T : Type 0} (before now : ℕ) (result : Result T IoFault) : Type 0 where
  pub later : before ≤ now
  pub failed : IsErrOf result Failed → Rose before now
