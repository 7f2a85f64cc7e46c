-- What results stand for where a name is lost, and where they are empty.
use Rattle.std.proofs.Common.{◌≡◌, ◌≢◌, ℕ, List, [], ◌∷◌, inl, inr, ◌⊎◌, Contains, Some, None, sym, ap, subst, ◌∙◌}
use Rattle.io_traits.specs.Files.{Files, get, remove}
use Rattle.out_entry.specs.Entries.{entry_text}
use Rattle.out_entry.specs.declared.entry.Entry.{Entry}
use Rattle.out_store.specs.Names.{generation_name}
use Rattle.out_store.specs.Standing.{Row}
use Rattle.out_store.specs.Standing as rows
use Rattle.out_store.specs.Generations.{Reads}
use Rattle.out_store.proofs.FileLaws.{decide, get_remove, get_remove_other}
use Rattle.out_store.proofs.Rows.{contains_here, contains_later}
use Rattle.mill_top.specs.Inputs.{Run}
use Rattle.mill_top.specs.Standing.{StandsIn, rows_of}

-- what stands under a name without another one stood there before
still_there : (files : Files) (name other text : List ℕ) → get (remove files name) other ≡ Some text → get files other ≡ Some text
still_there files name other text is = elim (decide other name) as (λ _. get files other ≡ Some text) [
  | inl same ↦ let clash : None ≡ Some text = sym (get_remove files name) ∙ ap (get (remove files name)) (sym same) ∙ is in cc (clash)
  | inr apart ↦ sym (get_remove_other files name other apart) ∙ is
]

-- a name that isn't there any more is that name, or was not there before
gone_or_lost : (files : Files) (lost : List (List ℕ)) (name other : List ℕ) → get (remove files name) other ≡ None → (get files other ≡ None → Contains lost other) → Contains (name ∷ lost) other
gone_or_lost files lost name other none before = elim (decide other name) as (λ _. Contains (name ∷ lost) other) [
  | inl same ↦ subst (Contains (name ∷ lost)) (sym same) (contains_here name lost)
  | inr apart ↦ contains_later name other lost (before (sym (get_remove_other files name other apart) ∙ none))
]

rows_without : (files : Files) (all : List Row) (lost : List (List ℕ)) (name : List ℕ) → rows.Stands files all lost → rows.Stands (remove files name) all (name ∷ lost)
rows_without files all lost name stands = record {
  entries = λ task entry reads. stands.entries task entry (read_before task entry reads);
  dests = λ task entry reads.
      let has = stands.dests task entry (read_before task entry reads) in
      record {
        listed = λ path bytes is. has.listed path bytes (still_there files name (generation_name entry.task entry.generation path) bytes is);
        there = λ path digest among none. gone_or_lost files lost name (generation_name entry.task entry.generation path) none (has.there path digest among);
      };
} where
  read_before : (task : List ℕ) (entry : Entry) → Reads (remove files name) task entry → Reads files task entry
  read_before task entry reads = record { named = reads.named; keeps = reads.keeps; text = still_there files name _ (entry_text entry) reads.text; own = reads.own }

-- without a name the results stand for the same runs, and this name is lost as well
pub stands_without : (files : Files) (runs : List Run) (lost : List (List ℕ)) (name : List ℕ) → StandsIn (Some files) runs lost → StandsIn (Some (remove files name)) runs (name ∷ lost)
stands_without files runs lost name stands = rows_without files (rows_of runs) lost name stands

-- empty results stand for no runs and no lost names
pub stands_empty : (files : Files) → files ≡ [] → StandsIn (Some files) [] []
stands_empty files none = subst (λ f. StandsIn (Some f) [] []) (sym none) (record {
  entries = λ task entry reads. absurd (nothing task entry reads);
  dests = λ task entry reads. absurd (nothing task entry reads);
}) where
  nothing : (task : List ℕ) (entry : Entry) → Reads [] task entry → ⊥
  nothing task entry reads = let clash : None ≡ Some (entry_text entry) = reads.text in cc (clash)
