use Rattle.std.proofs.Common.{◌≡◌, ℕ, List, codes, not, nat_eq, false, true≢false, sym, ap₂, ◌∙◌}
use Rattle.std.specs.Cmp.Lexicographic.{pointwise}
use Rattle.out_store.specs.Names.{IsCut}
use Rattle.out_store.proofs.ReadingLaws.{not_cut, entry_folder}
use Rattle.out_store.proofs.names.task_of_entry.Goals as goal

pub returns-in_default-clause-every : goal.returns-in_default-clause-every
returns-in_default-clause-every c task name same =
    absurd (not_cut 46 c.as_slice.result.now _ (codes "json") (rw c.in_default.is at c.cut.ensures) (c.as_slice.ensures.bytes ∙ same))

pub returns-then-ne-clause-every : goal.returns-then-ne-clause-every
returns-then-ne-clause-every c task name same =
    let cuts : IsCut 46 c.as_slice.result.now c.in-Some.folder.now c.in-Some.ending.now = rw c.in-Some.is at c.cut.ensures in
    let folder = entry_folder c.as_slice.result.now c.in-Some.folder.now c.in-Some.ending.now task cuts (c.as_slice.ensures.bytes ∙ same) in
    let same_bytes : not (pointwise nat_eq c.in-Some.ending.now c.as_slice-2.result.now) ≡ false = ap₂ (λ (a b : List ℕ). not (pointwise nat_eq a b)) folder.1 c.as_slice-2.ensures in
    absurd (true≢false (sym c.if-ne.true ∙ c.ne.ensures ∙ same_bytes))

pub returns-in-Some-2-clause-every : goal.returns-in-Some-2-clause-every
returns-in-Some-2-clause-every c task name same =
    let cuts : IsCut 46 c.as_slice.result.now c.in-Some.folder.now c.in-Some.ending.now = rw c.in-Some.is at c.cut.ensures in
    let folder = entry_folder c.as_slice.result.now c.in-Some.folder.now c.in-Some.ending.now task cuts (c.as_slice.ensures.bytes ∙ same) in
    rw c.in-Some-2.is at c.in_ok-task.ensures.every task name folder.0

pub returns-in-None-clause-every : goal.returns-in-None-clause-every
returns-in-None-clause-every c task name same =
    let cuts : IsCut 46 c.as_slice.result.now c.in-Some.folder.now c.in-Some.ending.now = rw c.in-Some.is at c.cut.ensures in
    let folder = entry_folder c.as_slice.result.now c.in-Some.folder.now c.in-Some.ending.now task cuts (c.as_slice.ensures.bytes ∙ same) in
    rw c.in-None.is at c.in_ok-task.ensures.every task name folder.0
