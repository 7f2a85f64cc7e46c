use Rattle.std.proofs.Common.{◌≡◌, ℕ, List, Some, sym, ap₂, ◌∙◌}
use Rattle.std.proofs.lemmas.Option.{same_Some}
use Rattle.out_store.proofs.NameLaws.{no_dot, no_slash_number}
use Rattle.out_store.proofs.ReadingLaws.{same_parts, of_parts}
use Rattle.out_store.proofs.names.generation_of.Goals as goal

pub returns-in_default-clause-every : goal.returns-in_default-clause-every
returns-in_default-clause-every c task number of =
    let none = rw c.in_default.is at c.generation_parts.ensures in
    absurd (none _ _ of.below.0 (no_dot task) (no_slash_number number of.counted) (c.as_slice.ensures.bytes ∙ of.below.1))

pub returns-in_default-2-clause-every : goal.returns-in_default-2-clause-every
returns-in_default-2-clause-every c task number of =
    let parts = rw c.in-Some.is at c.generation_parts.ensures in
    let same = same_parts c.args.name.now c.in-Some.folder.now c.in-Some.digits.now parts.2.0 task number parts.0 parts.1 (sym c.as_slice.ensures.bytes ∙ parts.2.1) of in
    let found = rw c.in_default-2.is at c.in_ok-task.ensures.every task of.named same.0 in
    absurd (cc (found))

pub returns-in-None-clause-every : goal.returns-in-None-clause-every
returns-in-None-clause-every c task number of =
    let parts = rw c.in-Some.is at c.generation_parts.ensures in
    let same = same_parts c.args.name.now c.in-Some.folder.now c.in-Some.digits.now parts.2.0 task number parts.0 parts.1 (sym c.as_slice.ensures.bytes ∙ parts.2.1) of in
    let found = rw c.in-None.is at c.in_ok-number.ensures.every number of.counted same.1 in
    absurd (cc (found))

pub returns-in-Some-3-clause-every : goal.returns-in-Some-3-clause-every
returns-in-Some-3-clause-every c task number of =
    let parts = rw c.in-Some.is at c.generation_parts.ensures in
    let same = same_parts c.args.name.now c.in-Some.folder.now c.in-Some.digits.now parts.2.0 task number parts.0 parts.1 (sym c.as_slice.ensures.bytes ∙ parts.2.1) of in
    let first = rw c.in-Some-2.is at c.in_ok-task.ensures.every task of.named same.0 in
    let second = rw c.in-Some-3.is at c.in_ok-number.ensures.every number of.counted same.1 in
    let is_task : c.in-Some-2.task ≡ task = same_Some _ _ first in
    let is_number : c.in-Some-3.number ≡ number = same_Some _ _ second in
    ap₂ (λ (t : List ℕ) (n : ℕ). Some (t, n)) is_task is_number

pub returns-in-Some-3-clause-of : goal.returns-in-Some-3-clause-of
returns-in-Some-3-clause-of c =
    let parts = rw c.in-Some.is at c.generation_parts.ensures in
    let first = rw c.in-Some-2.is at c.in_ok-task.ensures.task in
    let second = rw c.in-Some-3.is at c.in_ok-number.ensures.number in
    of_parts c.args.name.now c.in-Some.folder.now c.in-Some.digits.now parts.2.0 c.in-Some-2.task c.in-Some-3.number (sym c.as_slice.ensures.bytes ∙ parts.2.1) first.0 second.0 (first.1 parts.0) second.1
