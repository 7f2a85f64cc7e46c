-- What the results stand for after a put or a removal, and after rows of them.
use Rattle.std.proofs.Common.{◌≡◌, ◌≢◌, ℕ, inl, inr, List, Some, None, sym, ap, subst, ◌∙◌}
use Rattle.std.proofs.lemmas.Option.{same_Some}
use Rattle.io_traits.specs.Files.{Files, get, insert, remove}
use Rattle.out_entry.specs.Entries.{entry_text}
use Rattle.out_entry.specs.declared.entry.Entry.{Entry}
use Rattle.out_entry.proofs.EntryText.{entry_text-injective}
use Rattle.out_store.specs.Generations.{Reads, IsPublished}
use Rattle.out_store.specs.Names.{IsTaskName, IsNumber, entry_name, log_name, generation_name}
use Rattle.out_store.specs.Standing.{Row, HasFiles, Stands}
use Rattle.out_store.proofs.FileLaws.{decide, get_insert_other, get_remove, get_remove_other}
use Rattle.out_store.proofs.NameLaws.{same_generation, entry_not_generation, log_not_generation, entry_not_log}

-- ---- entries that read

-- the task has one entry that reads
pub one_entry : (files : Files) (task : List ℕ) (e f : Entry) → Reads files task e → Reads files task f → e ≡ f
one_entry files task e f h k = entry_text-injective e f h.keeps.parts k.keeps.parts (same_Some _ _ (sym h.text ∙ k.text))

-- the same stands under the entry's name
pub reads_along : (old new : Files) (task : List ℕ) (entry : Entry) → get new (entry_name task) ≡ get old (entry_name task) → Reads new task entry → Reads old task entry
reads_along old new task entry here h = record { named = h.named; keeps = h.keeps; text = sym here ∙ h.text; own = h.own }

-- ---- a change that leaves each entry that reads, and its generation

pub record IsKept (old new : Files) (entry : Entry) : Type 0 where
  pub path_by_path : (path : List ℕ) → get new (generation_name entry.task entry.generation path) ≡ get old (generation_name entry.task entry.generation path)

pub files_kept : (old new : Files) (lost : List (List ℕ)) (entry : Entry) → IsKept old new entry → HasFiles old lost entry → HasFiles new lost entry
files_kept old new lost entry kept has = record {
  listed = λ path bytes is. has.listed path bytes (sym (kept.path_by_path path) ∙ is);
  there = λ path digest among none. has.there path digest among (sym (kept.path_by_path path) ∙ none);
}

pub stands_kept : (old new : Files) (rows : List Row) (lost : List (List ℕ)) → ((task : List ℕ) (entry : Entry) → Reads new task entry → Reads old task entry × IsKept old new entry) → Stands old rows lost → Stands new rows lost
stands_kept old new rows lost back stands = record {
  entries = λ task entry reads. stands.entries task entry (back task entry reads).0;
  dests = λ task entry reads. let both = back task entry reads in files_kept old new lost entry both.1 (stands.dests task entry both.0);
}

-- a name that is neither an entry's nor of a generation that an entry publishes
pub record IsAside (files : Files) (name : List ℕ) : Type 0 where
  pub no_entry : (task : List ℕ) → IsTaskName task → entry_name task ≢ name
  pub no_file : (task : List ℕ) (entry : Entry) → Reads files task entry → (path : List ℕ) → generation_name entry.task entry.generation path ≢ name

pub stands_insert : (files : Files) (name bytes : List ℕ) (rows : List Row) (lost : List (List ℕ)) → IsAside files name → Stands files rows lost → Stands (insert files name bytes) rows lost
stands_insert files name bytes rows lost aside = stands_kept files (insert files name bytes) rows lost (λ task entry reads.
    let before = reads_along files (insert files name bytes) task entry (get_insert_other files name bytes (entry_name task) (aside.no_entry task reads.named)) reads in
    (before, record { path_by_path = λ path. get_insert_other files name bytes _ (aside.no_file task entry before path) }))

pub stands_remove : (files : Files) (name : List ℕ) (rows : List Row) (lost : List (List ℕ)) → IsAside files name → Stands files rows lost → Stands (remove files name) rows lost
stands_remove files name rows lost aside = stands_kept files (remove files name) rows lost (λ task entry reads.
    let before = reads_along files (remove files name) task entry (get_remove_other files name (entry_name task) (aside.no_entry task reads.named)) reads in
    (before, record { path_by_path = λ path. get_remove_other files name _ (aside.no_file task entry before path) }))

-- an entry's name taken away
pub stands_unread : (files : Files) (task : List ℕ) (rows : List Row) (lost : List (List ℕ)) → IsTaskName task → Stands files rows lost → Stands (remove files (entry_name task)) rows lost
stands_unread files task rows lost named = stands_kept files (remove files (entry_name task)) rows lost (λ t entry reads.
    elim (decide (entry_name t) (entry_name task)) as (λ _. Reads files t entry × IsKept files (remove files (entry_name task)) entry) [
      | inl here ↦
          let gone : get (remove files (entry_name task)) (entry_name t) ≡ None = ap (get (remove files (entry_name task))) here ∙ get_remove files (entry_name task) in
          let clash : Some (entry_text entry) ≡ None = sym reads.text ∙ gone in
          absurd (cc (clash))
      | inr other ↦
          let before = reads_along files (remove files (entry_name task)) t entry (get_remove_other files (entry_name task) (entry_name t) other) reads in (
            before,
            record {
              path_by_path = λ path. get_remove_other files (entry_name task) _ (λ e. entry_not_generation task entry.task entry.generation path named (subst IsTaskName (sym reads.own) reads.named) (sym e));
            },
          )
    ])

-- ---- a log's name is aside

pub log_aside : (files : Files) (task : List ℕ) → IsTaskName task → IsAside files (log_name task)
log_aside files task named = record {
  no_entry = λ t name e. entry_not_log t task name named e;
  no_file = λ t entry reads path e. log_not_generation task entry.task entry.generation path named (subst IsTaskName (sym reads.own) reads.named) (sym e);
}

-- a name of a generation that no entry publishes is aside
pub generation_aside : (files : Files) (task : List ℕ) (number : ℕ) (path : List ℕ) → IsTaskName task → IsNumber number → (IsPublished files task number → ⊥) → IsAside files (generation_name task number path)
generation_aside files task number path named counted free = record {
  no_entry = λ t name e. entry_not_generation t task number path name named e;
  no_file = λ t entry reads p e.
      let small = reads.keeps.parts.generation in
      let same = same_generation entry.task task entry.generation number p path (subst IsTaskName (sym reads.own) reads.named) named (reads.keeps.whole.counted, small) counted e in
      free (entry, subst (λ (u : List ℕ). Reads files u entry) (sym reads.own ∙ same.0) reads, same.1);
}
