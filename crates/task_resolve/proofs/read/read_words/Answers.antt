use Rattle.std.proofs.Common.{sym, ◌∙◌}
use Rattle.task_resolve.proofs.GroupLaws.{good}
use Rattle.task_resolve.proofs.read.read_words.Goals as goal

pub request-requires : goal.request-requires
request-requires c = good c.args.place c.args.words.now (sym c.first_bad.ensures ∙ c.in_default.is)
