-- What the results stand for after a publishing, also where it was refused.
use Rattle.std.proofs.Common.{◌≡◌, ◌≢◌, ℕ, zero, suc, inl, inr, List, [], ◌∷◌, ◌++◌, Contains, Option, Some, None, refl, sym, ap, subst, ◌∙◌, arith}
use Rattle.std.specs.List.{AllByRecursion}
use Rattle.std.proofs.lemmas.Option.{same_Some}
use Rattle.io_traits.specs.Files.{File, Files, get, insert, remove, put_in, LeftByPut}
use Rattle.out_entry.specs.Entries.{HasParts, entry_text}
use Rattle.out_entry.specs.declared.entry.Entry.{Entry}
use Rattle.out_entry.proofs.EntryText.{entry_text-injective}
use Rattle.out_store.specs.Changes.{puts_in, LeftByPuts, at_name, OthersStay}
use Rattle.out_store.specs.Generations.{Reads, IsThere, IsPublished}
use Rattle.out_store.specs.Names.{IsTaskName, IsNumber, IsOf, entry_name, log_name, generation_name}
use Rattle.out_store.specs.Numbers.{IsUsed, IsNext, Knows, KnowsIn, Takes}
use Rattle.out_store.specs.Publishing.{entry_of, dest_puts, puts_of, log_text, LeftByPublish, IsPut, WentBy}
use Rattle.out_store.specs.Standing.{Row, IsOfRow, HasFiles, Stands, StandsIn, row_of}
use Rattle.out_store.specs.declared.finished.Finished.{Finished}
use Rattle.out_store.specs.declared.numbers.Numbers.{Numbers}
use Rattle.out_store.proofs.ChangeLaws.{left_split, not_begun}
use Rattle.out_store.proofs.FileLaws.{decide, get_insert, get_insert_other, get_remove, get_remove_other}
use Rattle.out_store.proofs.NameLaws.{same_generation, one_generation, entry_not_generation, log_not_generation, entry_not_log, same_entry}
use Rattle.out_store.proofs.Rows.{contains_here, contains_later, contains_map, contains_unmap, In, Safe, keep_put, keep_in, keep_puts, keep_all, others_left}
use Rattle.out_store.proofs.StandingLaws.{reads_along, files_kept, stands_insert, stands_remove, stands_unread, log_aside, generation_aside}
use Rattle.sha2.specs.Sha256.{sha256}

-- one more run to stand for
more_rows : (files : Files) (row : Row) (rows : List Row) (lost : List (List ℕ)) → Stands files rows lost → Stands files (row ∷ rows) lost
more_rows files row rows lost stands = record {
  entries = λ task entry reads. let found = stands.entries task entry reads in (found.0, contains_later row found.0 rows found.1, found.2);
  dests = stands.dests;
}

pub more_in : (content : Option Files) (row : Row) (rows : List Row) (lost : List (List ℕ)) → StandsIn content rows lost → StandsIn content (row ∷ rows) lost
more_in None row rows lost h = h
more_in (Some files) row rows lost h = more_rows files row rows lost h

-- ---- while the dest's files are put

-- the files stand for the runs, no entry has the number, and only files of the dest stand under it
pub record IsReady (task : List ℕ) (number : ℕ) (dest : List File) (rows : List Row) (lost : List (List ℕ)) (files : Files) : Type 0 where
  pub stands : Stands files rows lost
  pub free : IsPublished files task number → ⊥
  pub only : (path bytes : List ℕ) → get files (generation_name task number path) ≡ Some bytes → Contains dest (path, bytes)

module _ (task : List ℕ) (number : ℕ) (dest : List File) (rows : List Row) (lost : List (List ℕ)) (named : IsTaskName task) (counted : IsNumber number) where
  abbrev Ready : Files → Type 0
  Ready files = IsReady task number dest rows lost files

  -- a name that no entry has, whatever is done to it
  free_along : (old new : Files) → get new (entry_name task) ≡ get old (entry_name task) → (IsPublished old task number → ⊥) → IsPublished new task number → ⊥
  free_along old new here free (entry, reads, is) = free (entry, reads_along old new task entry here reads, is)

  file_safe : (file : File) → Contains dest file → Safe Ready (generation_name task number file.0, file.1)
  file_safe file among =
      let name = generation_name task number file.0 in
      let not_name = entry_not_generation task task number file.0 named named in
      record {
        put = λ files ready. record {
          stands = stands_insert files name file.1 rows lost (generation_aside files task number file.0 named counted ready.free) ready.stands;
          free = free_along files (insert files name file.1) (get_insert_other files name file.1 (entry_name task) not_name) ready.free;
          only = λ path bytes is. elim (decide (generation_name task number path) name) as (λ _. Contains dest (path, bytes)) [
            | inl same ↦
                let is_path : file.0 ≡ path = sym (same_generation task task number number path file.0 named named counted counted same).2 in
                let is_bytes : file.1 ≡ bytes = same_Some _ _ (sym (ap (get (insert files name file.1)) same ∙ get_insert files name file.1) ∙ is) in
                subst (λ (f : File). Contains dest f) (λ i. (is_path i, is_bytes i)) among
            | inr other ↦ ready.only path bytes (sym (get_insert_other files name file.1 (generation_name task number path) other) ∙ is)
          ];
        };
        removal = λ files ready. record {
          stands = stands_remove files name rows lost (generation_aside files task number file.0 named counted ready.free) ready.stands;
          free = free_along files (remove files name) (get_remove_other files name (entry_name task) not_name) ready.free;
          only = λ path bytes is. elim (decide (generation_name task number path) name) as (λ _. Contains dest (path, bytes)) [
            | inl same ↦
                let clash : None ≡ Some bytes = sym (ap (get (remove files name)) same ∙ get_remove files name) ∙ is in
                absurd (cc (clash))
            | inr other ↦ ready.only path bytes (sym (get_remove_other files name (generation_name task number path) other) ∙ is)
          ];
        };
      }

  dest_safe : (files : List File) → ((file : File) → Contains files file → Contains dest file) → AllByRecursion (Safe Ready) (dest_puts task number files)
  dest_safe [] within = tt
  dest_safe (file ∷ files) within = (file_safe file (within file (contains_here file files)), dest_safe files (λ f among. within f (contains_later file f files among)))

  log_safe : (text : List ℕ) → Safe Ready (log_name task, text)
  log_safe text = record {
    put = λ files ready. record {
      stands = stands_insert files (log_name task) text rows lost (log_aside files task named) ready.stands;
      free = free_along files (insert files (log_name task) text) (get_insert_other files (log_name task) text (entry_name task) (entry_not_log task task named named)) ready.free;
      only = λ path bytes is. ready.only path bytes (sym (get_insert_other files (log_name task) text (generation_name task number path) (λ e. log_not_generation task task number path named named (sym e))) ∙ is);
    };
    removal = λ files ready. record {
      stands = stands_remove files (log_name task) rows lost (log_aside files task named) ready.stands;
      free = free_along files (remove files (log_name task)) (get_remove_other files (log_name task) (entry_name task) (entry_not_log task task named named)) ready.free;
      only = λ path bytes is. ready.only path bytes (sym (get_remove_other files (log_name task) (generation_name task number path) (λ e. log_not_generation task task number path named named (sym e))) ∙ is);
    };
  }

  -- where the number is free and no name stands under it, the files are ready
  ready_first : (files : Files) → Stands files rows lost → (IsPublished files task number → ⊥) → ((path : List ℕ) → IsThere files (generation_name task number path) → ⊥) → Ready files
  ready_first files stands free none = record {
    stands = stands;
    free = free;
    only = λ path bytes is. absurd (none path (λ gone. let clash : Some bytes ≡ None = sym is ∙ gone in cc (clash)));
  }

-- ---- all files of the dest are there

abbrev AllThere : List ℕ → ℕ → List File → Files → Type 0
AllThere task number dest files = (path bytes : List ℕ) → Contains dest (path, bytes) → IsThere files (generation_name task number path)

there_safe : (name : List ℕ) (file : File) (files : Files) → IsThere files name → IsThere (insert files file.0 file.1) name
there_safe name file files there gone = elim (decide name file.0) as (λ _. ⊥) [
  | inl same ↦ let clash : Some file.1 ≡ None = sym (ap (get (insert files file.0 file.1)) same ∙ get_insert files file.0 file.1) ∙ gone in cc (clash)
  | inr other ↦ there (sym (get_insert_other files file.0 file.1 name other) ∙ gone)
]

there_after : (puts : List File) (name : List ℕ) (content : Option Files) → In (λ files. IsThere files name) content → In (λ files. IsThere files name) (puts_in puts content)
there_after [] name content h = h
there_after (file ∷ puts) name None h = absurd h
there_after (file ∷ puts) name (Some files) h = there_after puts name (Some (insert files file.0 file.1)) (there_safe name file files h)

put_is_there : (puts : List File) (file : File) (files : Files) → Contains puts file → In (λ fs. IsThere fs file.0) (puts_in puts (Some files))
put_is_there [] file files (k, within, is) = absurd (omega (arith, within))
put_is_there (first ∷ puts) file files (zero, within, is) =
    there_after puts file.0 (Some (insert files first.0 first.1)) (λ gone.
    let found : get (insert files first.0 first.1) file.0 ≡ Some first.1 = ap (λ (f : File). get (insert files first.0 first.1) f.0) (sym is) ∙ get_insert files first.0 first.1 in
    let clash : Some first.1 ≡ None = sym found ∙ gone in
    cc (clash))
put_is_there (first ∷ puts) file files (suc k, within, is) = put_is_there puts file (insert files first.0 first.1) (k, omega (arith, within), is)

dest_is_there : (task : List ℕ) (number : ℕ) (dest : List File) (files : Files) (path bytes : List ℕ) → Contains dest (path, bytes) → In (λ fs. IsThere fs (generation_name task number path)) (puts_in (dest_puts task number dest) (Some files))
dest_is_there task number dest files path bytes among =
    put_is_there (dest_puts task number dest) (generation_name task number path, bytes) files (contains_map (λ (file : File). (generation_name task number file.0, file.1)) dest (path, bytes) among)

-- ---- the entry is put

module _ (run : Finished) (number : ℕ) (rows : List Row) (lost : List (List ℕ)) (named : IsTaskName run.task) (counted : IsNumber number) (parts : HasParts (entry_of run number)) where
  -- what reads under the entry's name is the run's entry
  own_entry : (files : Files) (t : List ℕ) (entry : Entry) → entry_name t ≡ entry_name run.task → Reads (insert files (entry_name run.task) (entry_text (entry_of run number))) t entry → entry ≡ entry_of run number
  own_entry files t entry here reads =
      let text : entry_text entry ≡ entry_text (entry_of run number) = same_Some _ _ (sym reads.text ∙ ap (get (insert files (entry_name run.task) (entry_text (entry_of run number)))) here ∙ get_insert files (entry_name run.task) (entry_text (entry_of run number))) in
      entry_text-injective entry (entry_of run number) reads.keeps.parts parts text

  other_entry : (files : Files) (bytes t : List ℕ) (entry : Entry) → entry_name t ≢ entry_name run.task → Reads (insert files (entry_name run.task) bytes) t entry → Reads files t entry
  other_entry files bytes t entry other reads = reads_along files (insert files (entry_name run.task) bytes) t entry (get_insert_other files (entry_name run.task) bytes (entry_name t) other) reads

  file_along : (files : Files) (bytes t : List ℕ) (n : ℕ) (path : List ℕ) → IsTaskName t → get (insert files (entry_name run.task) bytes) (generation_name t n path) ≡ get files (generation_name t n path)
  file_along files bytes t n path is = get_insert_other files (entry_name run.task) bytes (generation_name t n path) (λ e. entry_not_generation run.task t n path named is (sym e))

  own_row : IsOfRow (entry_of run number) (row_of run)
  own_row = record { task = refl; input = refl; value = refl; files = refl }

  own_files : (files : Files) → IsReady run.task number run.dest rows lost files → AllThere run.task number run.dest files → HasFiles (insert files (entry_name run.task) (entry_text (entry_of run number))) lost (entry_of run number)
  own_files files ready there = record {
    listed = λ path bytes is.
        contains_map (λ (file : File). (file.0, sha256 file.1)) run.dest (path, bytes)
        (ready.only path bytes (sym (file_along files (entry_text (entry_of run number)) run.task number path named) ∙ is));
    there = λ path digest among gone.
        let file = contains_unmap (λ (f : File). (f.0, sha256 f.1)) run.dest (path, digest) among in
        let is_path : file.0.0 ≡ path = ap (λ (f : File). f.0) file.2 in
        let stands = there file.0.0 file.0.1 file.1 in
        absurd (stands (ap (λ (p : List ℕ). get files (generation_name run.task number p)) is_path ∙ sym (file_along files (entry_text (entry_of run number)) run.task number path named) ∙ gone));
  }

  entry_stands : (files : Files) → IsReady run.task number run.dest rows lost files → AllThere run.task number run.dest files
      → Stands (insert files (entry_name run.task) (entry_text (entry_of run number))) (row_of run ∷ rows) lost
  entry_stands files ready there = record {
    entries = λ t entry reads. elim (decide (entry_name t) (entry_name run.task)) as (λ _. (row : Row) × Contains (row_of run ∷ rows) row × IsOfRow entry row) [
      | inl here ↦ (row_of run, contains_here (row_of run) rows, subst (λ (e : Entry). IsOfRow e (row_of run)) (sym (own_entry files t entry here reads)) own_row)
      | inr other ↦
          let found = ready.stands.entries t entry (other_entry files (entry_text (entry_of run number)) t entry other reads) in
          (found.0, contains_later (row_of run) found.0 rows found.1, found.2)
    ];
    dests = λ t entry reads. elim (decide (entry_name t) (entry_name run.task)) as (λ _. HasFiles (insert files (entry_name run.task) (entry_text (entry_of run number))) lost entry) [
      | inl here ↦ subst (λ (e : Entry). HasFiles (insert files (entry_name run.task) (entry_text (entry_of run number))) lost e) (sym (own_entry files t entry here reads)) (own_files files ready there)
      | inr other ↦
          files_kept files (insert files (entry_name run.task) (entry_text (entry_of run number))) lost entry
          (record { path_by_path = λ path. file_along files (entry_text (entry_of run number)) entry.task entry.generation path (subst IsTaskName (sym reads.own) reads.named) })
          (ready.stands.dests t entry (other_entry files (entry_text (entry_of run number)) t entry other reads))
    ];
  }

  -- ---- the whole row of puts

  abbrev Ready_here : Files → Type 0
  Ready_here files = IsReady run.task number run.dest rows lost files

  ready_row : (content : Option Files) → In Ready_here content → StandsIn content (row_of run ∷ rows) lost
  ready_row None h = h
  ready_row (Some files) h = more_rows files (row_of run) rows lost h.stands

  abbrev last_content : Option Files → Option Files
  last_content old = put_in (log_name run.task) (log_text run.log) (puts_in (dest_puts run.task number run.dest) old)

  -- before the entry is put all is ready, and the dest's files are there
  ready_last : (old : Option Files) → In Ready_here old → In Ready_here (last_content old)
  ready_last old ready =
      keep_in Ready_here (log_name run.task, log_text run.log) (log_safe run.task number run.dest rows lost named counted (log_text run.log)) (puts_in (dest_puts run.task number run.dest) old)
      (keep_all Ready_here (dest_puts run.task number run.dest) (dest_safe run.task number run.dest rows lost named counted run.dest (λ file among. among)) old ready)

  there_last : (files : Files) (path bytes : List ℕ) → Contains run.dest (path, bytes) → In (λ fs. IsThere fs (generation_name run.task number path)) (last_content (Some files))
  there_last files path bytes among =
      there_after ((log_name run.task, log_text run.log) ∷ []) (generation_name run.task number path) (puts_in (dest_puts run.task number run.dest) (Some files))
      (dest_is_there run.task number run.dest files path bytes among)

  -- the entry's put, whatever it left
  entry_left : (mid new : Option Files) → In Ready_here mid → ((path bytes : List ℕ) → Contains run.dest (path, bytes) → In (λ fs. IsThere fs (generation_name run.task number path)) mid)
      → LeftByPut (entry_name run.task) (entry_text (entry_of run number)) mid new → StandsIn new (row_of run ∷ rows) lost
  entry_left mid new ready there (inl same) = subst (λ (c : Option Files). StandsIn c (row_of run ∷ rows) lost) (sym same) (ready_row mid ready)
  entry_left None new ready there (inr left) = absurd ready
  entry_left (Some files) new ready there (inr (inl put)) = subst (λ (c : Option Files). StandsIn c (row_of run ∷ rows) lost) (sym put) (entry_stands files ready there)
  entry_left (Some files) new ready there (inr (inr taken)) =
      subst (λ (c : Option Files). StandsIn c (row_of run ∷ rows) lost) (sym taken) (more_rows (remove files (entry_name run.task)) (row_of run) rows lost (stands_unread files run.task rows lost named ready.stands))

  last_left : (old mid new : Option Files) → In Ready_here old → mid ≡ puts_in (dest_puts run.task number run.dest) old
      → LeftByPuts ((log_name run.task, log_text run.log) ∷ (entry_name run.task, entry_text (entry_of run number)) ∷ []) mid new → StandsIn new (row_of run ∷ rows) lost
  last_left None mid new ready is left = absurd ready
  last_left (Some files) mid new ready is (inl log) =
      ready_row new (keep_put Ready_here (log_name run.task, log_text run.log) (log_safe run.task number run.dest rows lost named counted (log_text run.log)) mid new log
      (subst (In Ready_here) (sym is) (keep_all Ready_here (dest_puts run.task number run.dest) (dest_safe run.task number run.dest rows lost named counted run.dest (λ file among. among)) (Some files) ready)))
  last_left (Some files) mid new ready is (inr (inl entry)) =
      entry_left (last_content (Some files)) new (ready_last (Some files) ready) (there_last files)
      (subst (λ (c : Option Files). LeftByPut (entry_name run.task) (entry_text (entry_of run number)) (put_in (log_name run.task) (log_text run.log) c) new) is entry)
  last_left (Some files) mid new ready is (inr (inr whole)) =
      entry_left (last_content (Some files)) new (ready_last (Some files) ready) (there_last files)
      (inr (inl (whole ∙ ap (λ (c : Option Files). put_in (entry_name run.task) (entry_text (entry_of run number)) (put_in (log_name run.task) (log_text run.log) c)) is)))

  pub run_left : (old new : Option Files) → In Ready_here old → LeftByPuts (puts_of run number) old new → StandsIn new (row_of run ∷ rows) lost
  run_left old new ready left = elim (left_split (dest_puts run.task number run.dest) ((log_name run.task, log_text run.log) ∷ (entry_name run.task, entry_text (entry_of run number)) ∷ []) old new left) [
    | inl front ↦ ready_row new (keep_puts Ready_here (dest_puts run.task number run.dest) (dest_safe run.task number run.dest rows lost named counted run.dest (λ file among. among)) old new front ready)
    | inr back ↦ last_left old (puts_in (dest_puts run.task number run.dest) old) new ready refl back
  ]

  -- a free number makes all ready
  pub ready_from : (content : Option Files) (numbers : Numbers) → IsNext numbers run.task number → KnowsIn content numbers → StandsIn content rows lost → In Ready_here content
  ready_from None numbers next knows stands = absurd stands
  ready_from (Some files) numbers next knows stands =
      ready_first run.task number run.dest rows lost named counted files stands
      (λ (entry, reads, is). next.free (subst (λ (n : ℕ). IsUsed numbers run.task n) is (knows.entries run.task entry reads)))
      (λ path there. next.free (knows.generations run.task number (generation_name run.task number path) (record { named = named; counted = counted; below = (path, refl) }) there))

-- ---- what is known of numbers

pub knows_more : (files : Files) (old new : Numbers) → ((t : List ℕ) (n : ℕ) → IsUsed old t n → IsUsed new t n) → Knows files old → Knows files new
knows_more files old new grows knows = record {
  generations = λ t n name of there. grows t n (knows.generations t n name of there);
  entries = λ t entry reads. grows t entry.generation (knows.entries t entry reads);
}

pub knows_in_more : (content : Option Files) (old new : Numbers) → ((t : List ℕ) (n : ℕ) → IsUsed old t n → IsUsed new t n) → KnowsIn content old → KnowsIn content new
knows_in_more None old new grows h = h
knows_in_more (Some files) old new grows h = knows_more files old new grows h

pub knows_remove : (files : Files) (name : List ℕ) (numbers : Numbers) → Knows files numbers → Knows (remove files name) numbers
knows_remove files name numbers knows = record {
  generations = λ t n x of there. elim (decide x name) as (λ _. IsUsed numbers t n) [
    | inl same ↦ absurd (there (ap (get (remove files name)) same ∙ get_remove files name))
    | inr other ↦ knows.generations t n x of (λ gone. there (get_remove_other files name x other ∙ gone))
  ];
  entries = λ t entry reads. elim (decide (entry_name t) name) as (λ _. IsUsed numbers t entry.generation) [
    | inl same ↦
        let clash : None ≡ Some (entry_text entry) = sym (ap (get (remove files name)) same ∙ get_remove files name) ∙ reads.text in
        absurd (cc (clash))
    | inr other ↦ knows.entries t entry (reads_along files (remove files name) t entry (get_remove_other files name (entry_name t) other) reads)
  ];
}

-- a put whose name and bytes bring used numbers alone
record BringsUsed (numbers : Numbers) (file : File) : Type 0 where
  as_file : (t : List ℕ) (n : ℕ) → IsOf t n file.0 → IsUsed numbers t n
  as_entry : (t : List ℕ) (entry : Entry) → IsTaskName t → HasParts entry → entry.task ≡ t → entry_name t ≡ file.0 → entry_text entry ≡ file.1 → IsUsed numbers t entry.generation

knows_insert : (files : Files) (file : File) (numbers : Numbers) → BringsUsed numbers file → Knows files numbers → Knows (insert files file.0 file.1) numbers
knows_insert files file numbers brings knows = record {
  generations = λ t n x of there. elim (decide x file.0) as (λ _. IsUsed numbers t n) [
    | inl same ↦ brings.as_file t n (subst (IsOf t n) same of)
    | inr other ↦ knows.generations t n x of (λ gone. there (get_insert_other files file.0 file.1 x other ∙ gone))
  ];
  entries = λ t entry reads. elim (decide (entry_name t) file.0) as (λ _. IsUsed numbers t entry.generation) [
    | inl same ↦
        let text : entry_text entry ≡ file.1 = same_Some _ _ (sym reads.text ∙ ap (get (insert files file.0 file.1)) same ∙ get_insert files file.0 file.1) in
        brings.as_entry t entry reads.named reads.keeps.parts reads.own same text
    | inr other ↦ knows.entries t entry (reads_along files (insert files file.0 file.1) t entry (get_insert_other files file.0 file.1 (entry_name t) other) reads)
  ];
}

known_safe : (numbers : Numbers) (file : File) → BringsUsed numbers file → Safe (λ files. Knows files numbers) file
known_safe numbers file brings = record {
  put = λ files knows. knows_insert files file numbers brings knows;
  removal = λ files knows. knows_remove files file.0 numbers knows;
}

all_append : {X : Type 0} (P : X → Type 0) (xs ys : List X) → AllByRecursion P xs → AllByRecursion P ys → AllByRecursion P (xs ++ ys)
all_append P [] ys h k = k
all_append P (x ∷ xs) ys h k = (h.0, all_append P xs ys h.1 k)

module _ (run : Finished) (number : ℕ) (numbers : Numbers) (named : IsTaskName run.task) (counted : IsNumber number) (parts : HasParts (entry_of run number)) (used : IsUsed numbers run.task number) where
  dest_brings : (files : List File) → AllByRecursion (Safe (λ fs. Knows fs numbers)) (dest_puts run.task number files)
  dest_brings [] = tt
  dest_brings (file ∷ files) = (
    known_safe numbers (generation_name run.task number file.0, file.1) (record {
      as_file = λ t n of.
          let same = one_generation t run.task n number (generation_name run.task number file.0) of (record { named = named; counted = counted; below = (file.0, refl) }) in
          subst (λ (u : List ℕ). IsUsed numbers u n) (sym same.0) (subst (λ (m : ℕ). IsUsed numbers run.task m) (sym same.1) used);
      as_entry = λ t entry name has own here text. absurd (entry_not_generation t run.task number file.0 name named here);
    }),
    dest_brings files,
  )

  log_brings : Safe (λ fs. Knows fs numbers) (log_name run.task, log_text run.log)
  log_brings = known_safe numbers (log_name run.task, log_text run.log) (record {
    as_file = λ t n of. absurd (log_not_generation run.task t n of.below.0 named of.named of.below.1);
    as_entry = λ t entry name has own here text. absurd (entry_not_log t run.task name named here);
  })

  entry_brings : Safe (λ fs. Knows fs numbers) (entry_name run.task, entry_text (entry_of run number))
  entry_brings = known_safe numbers (entry_name run.task, entry_text (entry_of run number)) (record {
    as_file = λ t n of. absurd (entry_not_generation run.task t n of.below.0 named of.named of.below.1);
    as_entry = λ t entry name has own here text.
        let same_task : t ≡ run.task = same_entry t run.task name named here in
        let same : entry ≡ entry_of run number = entry_text-injective entry (entry_of run number) has parts text in
        subst (λ (u : List ℕ). IsUsed numbers u entry.generation) (sym same_task) (subst (λ (m : ℕ). IsUsed numbers run.task m) (sym (ap (λ (e : Entry). e.generation) same)) used);
  })

  all_bring : AllByRecursion (Safe (λ fs. Knows fs numbers)) (puts_of run number)
  all_bring = all_append (Safe (λ fs. Knows fs numbers)) (dest_puts run.task number run.dest) ((log_name run.task, log_text run.log) ∷ (entry_name run.task, entry_text (entry_of run number)) ∷ []) (dest_brings run.dest) (log_brings, (entry_brings, tt))

  in_knows : (content : Option Files) → KnowsIn content numbers → In (λ fs. Knows fs numbers) content
  in_knows None h = h
  in_knows (Some files) h = h

  knows_in : (content : Option Files) → In (λ fs. Knows fs numbers) content → KnowsIn content numbers
  knows_in None h = h
  knows_in (Some files) h = h

  pub knows_left : (old new : Option Files) → KnowsIn old numbers → LeftByPuts (puts_of run number) old new → KnowsIn new numbers
  knows_left old new knows left = knows_in new (keep_puts (λ fs. Knows fs numbers) (puts_of run number) all_bring old new left (in_knows old knows))

-- ---- a publishing, whatever it left

same_content : (content new : Option Files) (row : Row) (rows : List Row) (lost : List (List ℕ)) → new ≡ content → StandsIn content rows lost → StandsIn new (row ∷ rows) lost
same_content content new row rows lost is stands = subst (λ (c : Option Files). StandsIn c (row ∷ rows) lost) (sym is) (more_in content row rows lost stands)

module _ (run : Finished) (old new : Numbers) (before now : Option Files) (named : IsTaskName run.task) where
  pub went_left : WentBy run old new before now → LeftByPublish run old new before now
  went_left (inl nothing) = inl nothing
  went_left (inr (number, next, takes, inl same)) = inr (number, next, takes, subst (λ (c : Option Files). LeftByPuts (puts_of run number) before c) (sym same) (not_begun (puts_of run number) before))
  went_left (inr (number, next, takes, inr (parts, left))) = inr (number, next, takes, left)

  pub went_others : WentBy run old new before now → OthersStay (IsPut run old) before now
  went_others (inl nothing) name other = ap (at_name name) nothing.1
  went_others (inr (number, next, takes, inl same)) name other = ap (at_name name) same
  went_others (inr (number, next, takes, inr (parts, left))) name other = others_left (puts_of run number) before now left name (λ among. other (number, next, among))

  pub went_stands : (rows : List Row) (lost : List (List ℕ)) → WentBy run old new before now → KnowsIn before old → StandsIn before rows lost → StandsIn now (row_of run ∷ rows) lost
  went_stands rows lost (inl nothing) knows stands = same_content before now (row_of run) rows lost nothing.1 stands
  went_stands rows lost (inr (number, next, takes, inl same)) knows stands = same_content before now (row_of run) rows lost same stands
  went_stands rows lost (inr (number, next, takes, inr (parts, left))) knows stands =
      run_left run number rows lost named next.counted parts before now (ready_from run number rows lost named next.counted parts before old next knows stands) left

  grows : (number : ℕ) → Takes old run.task number new → (t : List ℕ) (n : ℕ) → IsUsed old t n → IsUsed new t n
  grows number takes t n used = (takes t n).1 (inl used)

  pub went_knows : WentBy run old new before now → KnowsIn before old → KnowsIn now new
  went_knows (inl nothing) knows = subst (λ (c : Option Files). KnowsIn c new) (sym nothing.1) (knows_in_more before old new (λ t n used. (nothing.0 t n).1 used) knows)
  went_knows (inr (number, next, takes, inl same)) knows = subst (λ (c : Option Files). KnowsIn c new) (sym same) (knows_in_more before old new (grows number takes) knows)
  went_knows (inr (number, next, takes, inr (parts, left))) knows =
      knows_left run number new named next.counted parts ((takes run.task number).1 (inr (refl, refl))) before now (knows_in_more before old new (grows number takes) knows) left
