-- Natives that leave the world as it is.
use Rattle.std.proofs.Common.{◌≡◌, refl}
use Rattle.std.specs.Prelude.{Result, Ok, Err, IfOk}
use Rattle.native_model.specs.declared.fault.StepFault.{StepFault}
use Rattle.native_model.specs.declared.native_end.NativeEnd.{NativeEnd}
use Rattle.native_model.specs.declared.native_end.NativeEnd.TheVariants as ends
use Rattle.native_model.specs.Worlds.{Placed}
use Rattle.native_model.specs.Answers.{Answer}
use Rattle.native_model.specs.Ends.{answer_of, UnlessGiven, Answers}

as_it_was : {N : Type 0} (end : NativeEnd) (w : Placed N) → UnlessGiven end (w.world ≡ w.world)
as_it_was (ends.Gives slot) w = tt
as_it_was (ends.Throws what) w = refl
as_it_was (ends.CallsBack callback slots) w = refl
as_it_was (ends.NeedsFile reference path) w = refl
as_it_was (ends.NeedsNames reference) w = refl
as_it_was (ends.Spends budget) w = refl

pub stays : {N : Type 0} (defined : Answer) (end : NativeEnd) (w : Placed N) → defined ≡ answer_of end w.world → Answers defined (Ok end) w w
stays defined end w is = record { answer = is; kept = as_it_was end w; unmade = tt; names = refl }

pub stays_if_told : {N : Type 0} (defined : Answer) (r : Result NativeEnd StepFault) (w : Placed N) → IfOk r (λ end. defined ≡ answer_of end w.world) → Answers defined r w w
stays_if_told defined (Ok end) w is = record { answer = is; kept = as_it_was end w; unmade = tt; names = refl }
stays_if_told defined (Err fault) w is = record { answer = tt; kept = tt; unmade = refl; names = refl }

pub ruleset staying = (stays, stays_if_told)
