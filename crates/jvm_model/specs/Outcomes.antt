-- How a body's end is kept: its value in the short form.
use Rattle.tree_value.specs.Values.{short}
use Rattle.jvm_model.specs.declared.outcome.Outcome.{Outcome}
use Rattle.jvm_model.specs.declared.outcome.Outcome.TheVariants as kept
use Rattle.jvm_model.specs.Bodies as bodies

abbrev pub short_outcome : bodies.Outcome → Outcome
short_outcome (bodies.returns value dest log) = kept.Returns (short value) dest log
short_outcome (bodies.throws class message log) = kept.Throws class message log
short_outcome (bodies.spends budget log) = kept.Spent budget log
