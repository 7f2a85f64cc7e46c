use Rattle.std.proofs.Common.{◌∙◌}
use Rattle.task_resolve.proofs.NumberLaws.{parsed}
use Rattle.task_resolve.proofs.numbers.written.Goals as goal

pub returns : goal.returns
returns c =
    c.ok.ensures.value
    ∙ parsed c.args.digits.now c.parse.result c.requires.decimal (rw c.in-Ok.ensures.cases.0 at c.parse.ensures.value.0)
