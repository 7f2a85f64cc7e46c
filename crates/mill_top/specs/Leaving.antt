-- What takes leave in the store of results.
use Rattle.std.specs.Prelude.{◌≡◌, ℕ, ℤ, List, [], ◌∷◌, Option}
use Rattle.io_traits.specs.Files.{Files}
use Rattle.tree_value.specs.declared.value.Value.TheVariants.{Int}
use Rattle.out_store.specs.Changes.{puts_in, LeftByPuts}
use Rattle.out_store.specs.Publishing.{puts_of}
use Rattle.out_store.specs.declared.finished.Finished.{Finished}
use Rattle.mill_top.specs.declared.outcome.Outcome.{Outcome}
use Rattle.mill_top.specs.declared.outcome.Outcome.TheVariants.{Returns}
use Rattle.mill_top.specs.declared.takes.FoundEntry.{FoundEntry}
use Rattle.mill_top.specs.declared.takes.FoundEntry.TheVariants.{Same}
use Rattle.mill_top.specs.Takes.{Take}

-- the run of a task with this outcome, without dest files, since no body makes any yet
abbrev pub finished_by : (task input : List ℕ) → Outcome → Finished
finished_by task input (Returns value log) = record { task = task; input = input; value = Int value; dest = []; log = log }

-- the run of a take; no body logs anything yet
abbrev pub finished_of : Take → Finished
finished_of take = finished_by take.task take.input (Returns take.value [])

-- the content after a take: as it was where the entry was reused, or with all that the run puts
abbrev pub after : FoundEntry → Take → Option Files → Option Files
after (Same input) take content = content
after found take content = puts_in (puts_of (finished_of take) take.generation) content

abbrev pub after_take : Take → Option Files → Option Files
after_take take content = after take.found take content

-- the content after takes, the latest first
abbrev pub after_takes : List Take → Option Files → Option Files
after_takes [] content = content
after_takes (take ∷ earlier) content = after_take take (after_takes earlier content)

abbrev pub MayLeaveAfter : FoundEntry → Take → Option Files → Option Files → Type 0
MayLeaveAfter (Same input) take old new = new ≡ old
MayLeaveAfter found take old new = LeftByPuts (puts_of (finished_of take) take.generation) old new

-- what a take may leave, also where it ended early
abbrev pub MayLeaveTake : Take → Option Files → Option Files → Type 0
MayLeaveTake take old new = MayLeaveAfter take.found take old new

-- what may be left after takes, the latest first, of which that one may have ended early
abbrev pub MayLeave : List Take → Option Files → Option Files → Type 0
MayLeave [] old new = new ≡ old
MayLeave (take ∷ earlier) old new = MayLeaveTake take (after_takes earlier old) new
