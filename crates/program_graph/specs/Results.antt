-- What comes of each element, in order, or the first fault.
use Rattle.std.specs.Prelude.{List, ◌∷◌}
use Rattle.std.specs.declared.result.Result.{Result}
use Rattle.std.specs.declared.result.Result.TheVariants.{Ok, Err}

abbrev pub with_first : {A E : Type 0} → A → Result (List A) E → Result (List A) E
with_first x (Ok more) = Ok (x ∷ more)
with_first x (Err fault) = Err fault

-- what came of the first, and then what comes of the others
abbrev pub then_each : {A E : Type 0} → Result A E → Result (List A) E → Result (List A) E
then_each (Ok x) more = with_first x more
then_each (Err fault) more = Err fault
