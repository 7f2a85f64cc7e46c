use Rattle.class_index.proofs.Questions.{id_within}
use Rattle.class_index.proofs.index.Index.override_for.Goals as goal

pub overriding-requires-clause-place : goal.overriding-requires-clause-place
overriding-requires-clause-place c =
    rw (c.outlines-all.ensures.value, c.place.ensures) (id_within c.args.self.now c.args.receiver c.requires)
