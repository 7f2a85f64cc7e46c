use Rattle.std.proofs.Common.{◌≡◌, Some, subst, length, arith}
use Rattle.class_model.specs.Programs.{LeastAmong, HasDistinctNames}
use Rattle.class_model.proofs.ProgramLemmas.{index_all, distinct_all, double_all, not_distinct}
use Rattle.class_model.proofs.program_list.Program.of.Goals as goal

distinct : (c : goal.In-None) → HasDistinctNames c.args.classes.items
distinct c =
    distinct_all c.args.classes.items c.loop-at.at (omega arith) (subst (LeastAmong c.args.classes.items c.loop-at.at) c.in-None.is c.loop-at.invariant.1)

pub invariant_of-result : goal.invariant_of-result
invariant_of-result c =
    let all : c.loop-at.at ≡ length c.args.classes.items = omega arith in
    (record { shaped = c.requires; distinct = distinct c }, index_all _ _ _ all c.loop-at.invariant.0)

pub returns-in-None-clause-distinct : goal.returns-in-None-clause-distinct
returns-in-None-clause-distinct c = distinct c

pub returns-in_ok-name_of-in-Some-clause-double : goal.returns-in_ok-name_of-in-Some-clause-double
returns-in_ok-name_of-in-Some-clause-double c =
    let least : LeastAmong c.args.classes.items c.loop-at.at (Some c.in-Some.at) = subst (LeastAmong c.args.classes.items c.loop-at.at) c.in-Some.is c.loop-at.invariant.1 in
    rw c.in_ok-name_of-in-Some.ensures (double_all c.args.classes.items c.loop-at.at c.in-Some.at c.index.result.now (omega arith) c.index.ensures least)

pub returns-in_ok-name_of-in-Some-clause-only : goal.returns-in_ok-name_of-in-Some-clause-only
returns-in_ok-name_of-in-Some-clause-only c =
    λ distinct. absurd (not_distinct c.args.classes.items c.in_ok-name_of-in-Some.field-0 (returns-in_ok-name_of-in-Some-clause-double c) distinct)
