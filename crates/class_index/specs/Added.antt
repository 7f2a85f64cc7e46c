-- One more method to choose from.
use Rattle.std.specs.Prelude.{Option, Some, None}
use Rattle.class_index.specs.declared.lookup.Found.{Found}
use Rattle.class_index.specs.declared.lookup.Choice.{Choice}
use Rattle.class_index.specs.declared.lookup.Choice.TheVariants.{Nothing, One, Many}

abbrev pub added : Choice → Option Found → Choice
added choice None = choice
added Nothing (Some found) = One found
added (One other) (Some found) = Many
added Many (Some found) = Many
