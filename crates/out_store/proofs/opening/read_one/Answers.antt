use Rattle.std.proofs.Common.{◌≡◌, ℕ, List, ◌++◌, ◌∷◌, [], Option, Some, None, sym, ap, ◌∙◌, subst}
use Rattle.io_traits.specs.Files.{Files}
use Rattle.out_entry.specs.declared.entry.Entry.{Entry}
use Rattle.out_store.specs.Generations.{Reads, IsFound}
use Rattle.out_store.specs.Names.{IsTaskName, entry_name}
use Rattle.out_store.specs.Opened.{IsKeptOf, AreKeptUnder}
use Rattle.out_store.proofs.NameLaws.{same_entry}
use Rattle.out_store.proofs.OpenedLaws.{skip_kept, more_kept}
use Rattle.out_store.proofs.OpeningLaws.{skip, read_more, covers_more, at_told}
use Rattle.out_store.proofs.opening.read_one.Goals as goal

-- no task has an entry of this name
no_task : (found : Option (List ℕ)) (name : List ℕ) (files : Files) → found ≡ None → ((task : List ℕ) → IsTaskName task → name ≡ entry_name task → found ≡ Some task) → (task : List ℕ) (entry : Entry) → Reads files task entry → entry_name task ≡ name → ⊥
no_task found name files none every task entry reads here = let clash : None ≡ Some task = sym none ∙ every task reads.named (sym here) in cc (clash)

-- and of the one that may have it no entry reads
no_entry : (files : Files) (name own : List ℕ) → IsTaskName own → name ≡ entry_name own → ((entry : Entry) → Reads files own entry → ⊥) → (task : List ℕ) (entry : Entry) → Reads files task entry → entry_name task ≡ name → ⊥
no_entry files name own named is none task entry reads here =
    let same = same_entry task own reads.named named (here ∙ is) in
    none entry (subst (λ (t : List ℕ). Reads files t entry) same reads)

pub returns-in_default-clause-covers : goal.returns-in_default-clause-covers
returns-in_default-clause-covers g c files seen is read covers =
    skip files c.args.numbers.now seen c.args.name.now (no_task c.in_ok-task.field-0 c.args.name.now files c.in_default.is c.in_ok-task.ensures.every) covers

pub returns-in_default-2-clause-covers : goal.returns-in_default-2-clause-covers
returns-in_default-2-clause-covers g c files seen is read covers =
    let own = rw c.in-Some.is at c.in_ok-task.ensures.task in
    let found = at_told (g.S.Store.content c.args.store.now) files (λ (fs : Files). IsFound fs c.in-Some.task c.in_ok-entry.field-0) is c.in_ok-entry.ensures.found in
    let none : (entry : Entry) → Reads files c.in-Some.task entry → ⊥ = rw c.in_default-2.is at found in
    skip files c.args.numbers.now seen c.args.name.now (no_entry files c.args.name.now c.in-Some.task own.0 own.1 none) covers

pub returns-clause-read : goal.returns-clause-read
returns-clause-read g c files is read =
    let found = at_told (g.S.Store.content c.args.store.now) files (λ (fs : Files). IsFound fs c.in-Some.task c.in_ok-entry.field-0) is c.in_ok-entry.ensures.found in
    let reads : Reads files c.in-Some.task c.in-Some-2.entry = rw c.in-Some-2.is at found in
    read_more files c.args.numbers.now c.open.new.self c.in-Some.task c.in-Some-2.entry reads c.in_ok-open.ensures.opening read

pub returns-clause-covers : goal.returns-clause-covers
returns-clause-covers g c files seen is read covers =
    let own = rw c.in-Some.is at c.in_ok-task.ensures.task in
    let found = at_told (g.S.Store.content c.args.store.now) files (λ (fs : Files). IsFound fs c.in-Some.task c.in_ok-entry.field-0) is c.in_ok-entry.ensures.found in
    let reads : Reads files c.in-Some.task c.in-Some-2.entry = rw c.in-Some-2.is at found in
    covers_more files c.args.numbers.now c.open.new.self c.in-Some.task c.in-Some-2.entry reads c.in_ok-open.ensures.opening seen c.args.name.now own.1 covers

pub returns-in_default-clause-entries : goal.returns-in_default-clause-entries
returns-in_default-clause-entries g c files seen is all order are =
    skip_kept files seen c.args.name.now c.args.entries.now.items (no_task c.in_ok-task.field-0 c.args.name.now files c.in_default.is c.in_ok-task.ensures.every) are

pub returns-in_default-2-clause-entries : goal.returns-in_default-2-clause-entries
returns-in_default-2-clause-entries g c files seen is all order are =
    let own = rw c.in-Some.is at c.in_ok-task.ensures.task in
    let found = at_told (g.S.Store.content c.args.store.now) files (λ (fs : Files). IsFound fs c.in-Some.task c.in_ok-entry.field-0) is c.in_ok-entry.ensures.found in
    let none : (entry : Entry) → Reads files c.in-Some.task entry → ⊥ = rw c.in_default-2.is at found in
    skip_kept files seen c.args.name.now c.args.entries.now.items (no_entry files c.args.name.now c.in-Some.task own.0 own.1 none) are

pub returns-clause-entries : goal.returns-clause-entries
returns-clause-entries g c files seen is all order are =
    let own = rw c.in-Some.is at c.in_ok-task.ensures.task in
    let found = at_told (g.S.Store.content c.args.store.now) files (λ (fs : Files). IsFound fs c.in-Some.task c.in_ok-entry.field-0) is c.in_ok-entry.ensures.found in
    let reads : Reads files c.in-Some.task c.in-Some-2.entry = rw c.in-Some-2.is at found in
    let of : IsKeptOf files c.in-Some-2.entry c.in_ok-keep.field-0 = c.in_ok-keep.ensures files c.in-Some.task all reads in
    let same : c.in_ok-keep.field-0.task ≡ c.in-Some.task = of.task ∙ reads.own in
    subst (AreKeptUnder files (seen ++ c.args.name.now ∷ [])) (sym c.in_ok-push.ensures.items)
    (more_kept files seen c.args.name.now c.args.entries.now.items c.in_ok-keep.field-0 c.in-Some-2.entry (ap entry_name same ∙ sym own.1)
    (subst (λ (t : List ℕ). Reads files t c.in-Some-2.entry) (sym same) reads) of are order)
