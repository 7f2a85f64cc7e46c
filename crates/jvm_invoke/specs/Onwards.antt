-- Where a result leads, and an attempt that gives nothing.
use Rattle.std.specs.Prelude.{◌≡◌, ℕ, Bool, true, false, List, Option}
use Rattle.jvm_heap.specs.declared.slot.Slot.{Slot}
use Rattle.native_model.specs.Ends.{thrown_of}
use Rattle.jvm_model.specs.Plans.{Oracle, Plan, ends, end_of}
use Rattle.jvm_model.specs.States.{State, Shared, Frame}
use Rattle.jvm_model.specs.Frames.{Move, stuck, raised, runs_dry}
use Rattle.jvm_model.specs.Driving.{delivered}
use Rattle.jvm_resolve.specs.declared.stop.Stop.{Stop}
use Rattle.jvm_resolve.specs.declared.stop.Stop.TheVariants as stops
use Rattle.jvm_state.specs.Moves.{move_of}
use Rattle.jvm_invoke.specs.declared.onward.Onward.{Onward}
use Rattle.jvm_invoke.specs.declared.onward.Onward.TheVariants as onwards

-- a move, or a value that goes on with the frames below
abbrev pub goes_with : Oracle → Onward → State → Move
goes_with oracle (onwards.Moves move) s = move_of move s
goes_with oracle (onwards.Gives v) s = end_of oracle (delivered s.frames s.shared v)

-- where a value goes on, the frames below are as they were
abbrev pub KeepsBelow : Onward → State → State → Type 0
KeepsBelow (onwards.Moves move) old new = Unit {0}
KeepsBelow (onwards.Gives v) old new = new.frames ≡ old.frames

-- what an attempt leads to that gives nothing; nothing is said of want of memory
abbrev pub stopped : List Frame → Shared → Stop → Plan Move
stopped frames s (stops.Throws t) = raised frames s (thrown_of t)
stopped frames s (stops.Spends b) = runs_dry b s
stopped frames s _ = ends stuck

-- anything but want of memory
abbrev pub is_told : Stop → Bool
is_told stops.Memory = false
is_told _ = true
