use Rattle.std.proofs.Common.{◌≡◌, ℕ, Some, option_map, ◌∙◌, ap, arith}
use Rattle.jvm_tables.specs.Externals.{External}
use Rattle.class_index.proofs.Outers.{count}
use Rattle.class_index.proofs.Questions.{length-all_of}
use Rattle.class_index.proofs.Parts.{object_row, object_there}
use Rattle.class_index.proofs.index.Index.owner_place.Goals as goal

pub returns-in-Some-clause-within : goal.returns-in-Some-clause-within
returns-in-Some-clause-within c =
    let found : Some c.in-Some.row.at ≡ Some 31 = ap (option_map (λ (row : ℕ × External). row.0)) c.in-Some.ensures ∙ object_row in
    let at : c.in-Some.row.at ≡ 31 = cc in
    omega (arith, at, c.own.ensures.value, length-all_of c.args.self.now, count)

pub returns-in-None-clause-value : goal.returns-in-None-clause-value
returns-in-None-clause-value c = absurd (object_there c.in-None.ensures)
