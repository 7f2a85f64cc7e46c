-- What is kept of the entries that read.
use Rattle.std.proofs.Common.{◌≡◌, ℕ, inl, inr, List, [], ◌∷◌, ◌++◌, map, Contains, codes, Option, Some, None, IfSome, refl, sym, ap, subst, ◌∙◌, arith, append_assoc}
use Rattle.std.specs.Fmt.{decimal}
use Rattle.std.specs.declared.cmp.Ordering.TheVariants.{Less}
use Rattle.std.specs.List.Sorted.{IsStrictlySortedBy}
use Rattle.std.proofs.lemmas.List.{map-append}
use Rattle.std.proofs.lemmas.List.Elements.{Contains-append_left, Contains-push, Contains-push_cases}
use Rattle.std.proofs.lemmas.Option.{same_Some}
use Rattle.io_traits.specs.Files.{Files, names, get, IsInOrder}
use Rattle.out_entry.specs.declared.entry.Entry.{Entry}
use Rattle.out_entry.specs.declared.entry.Kept.{Kept}
use Rattle.out_store.specs.Changes.{takes_out}
use Rattle.out_store.specs.Generations.{Reads, IsThere, IsUnpublished}
use Rattle.out_store.specs.Names.{IsTaskName, IsNumber, IsOf, entry_name, generation_name}
use Rattle.out_store.specs.Opened.{AreBelow, AreNamesOf, IsKeptOf, AreKeptUnder, AreKept}
use Rattle.out_store.specs.Opening.{PublishedStay}
use Rattle.out_store.proofs.FileLaws.{there_from_name, name_from_there}
use Rattle.out_store.proofs.NameLaws.{same_entry, entry_not_generation, one_generation}
use Rattle.out_store.proofs.NamesBelow.{in_order_push, last_above}
use Rattle.out_store.proofs.OpeningLaws.{contains_last}
use Rattle.out_store.proofs.Rows.{contains_unmap}
use Rattle.out_store.proofs.StandingLaws.{one_entry, reads_along}
use Rattle.tree_value.specs.Trees.{path_cmp}
use Rattle.value_text.specs.Texts.{slashed}

-- ---- the names of a generation

-- its names are those below its folder
below_folder : (task : List ℕ) (number : ℕ) (path : List ℕ) → generation_name task number [] ++ path ≡ generation_name task number path
below_folder task number path =
    append_assoc (slashed task) (codes ".dest/g" ++ (decimal number ++ 47 ∷ [])) path
    ∙ ap (λ (digits : List ℕ). slashed task ++ (codes ".dest/g" ++ digits)) (append_assoc (decimal number) (47 ∷ []) path)

name_there : (files : Files) (name : List ℕ) → IsThere files name → Contains (names files) name
name_there files name there = elim (get files name) as (λ o. get files name ≡ o → Contains (names files) name) [
  | None ↦ λ none. absurd (there none)
  | Some bytes ↦ λ some. name_from_there files name bytes some
] refl

pub are_names : (files : Files) (task : List ℕ) (number : ℕ) (below : List (List ℕ)) → IsTaskName task → IsNumber number → AreBelow (generation_name task number []) (names files) below → AreNamesOf files task number below
are_names files task number below named counted are = record {
  each = λ name among.
      let found = are.each name among in (
        record { named = named; counted = counted; below = (found.1.0, found.1.1 ∙ below_folder task number found.1.0) },
        there_from_name files name found.0,
      );
  every = λ name of there.
      let folded : name ≡ generation_name task number [] ++ of.below.0 = of.below.1 ∙ sym (below_folder task number of.below.0) in
      subst (Contains below) (sym folded) (are.every of.below.0 (subst (Contains (names files)) folded (name_there files name there)));
  rising = are.rising;
}

pub is_kept : (files : Files) (listed below : List (List ℕ)) (folder : List ℕ) (task : List ℕ) (entry : Entry) (kept : Kept) → listed ≡ names files → folder ≡ generation_name entry.task entry.generation [] → AreBelow folder listed below
    → kept.task ≡ entry.task → kept.input ≡ entry.input → kept.generation ≡ entry.generation → kept.files ≡ entry.files → kept.names ≡ below → Reads files task entry → IsKeptOf files entry kept
is_kept files listed below folder task entry kept all at are task_is input_is generation_is files_is names_is reads = record {
  task = task_is;
  input = input_is;
  generation = generation_is;
  digests = files_is;
  names =
      subst (AreNamesOf files entry.task entry.generation) (sym names_is)
      (are_names files entry.task entry.generation below
      (subst IsTaskName (sym reads.own) reads.named)
      (reads.keeps.whole.counted, reads.keeps.parts.generation)
      (subst (λ (f : List ℕ). AreBelow f (names files) below) at (subst (λ (ns : List (List ℕ)). AreBelow folder ns below) all are)));
}

-- ---- one name after another is read

pub none_kept : (files : Files) → AreKeptUnder files [] []
unfolding IsStrictlySortedBy
none_kept files = record {
  named = λ one (k, within, is). absurd (omega (arith, within));
  each = λ one (k, within, is). absurd (omega (arith, within));
  every = λ task entry reads (k, within, is). absurd (omega (arith, within));
  rising = tt;
}

pub skip_kept : (files : Files) (seen : List (List ℕ)) (name : List ℕ) (kept : List Kept) → ((task : List ℕ) (entry : Entry) → Reads files task entry → entry_name task ≡ name → ⊥) → AreKeptUnder files seen kept → AreKeptUnder files (seen ++ name ∷ []) kept
skip_kept files seen name kept none are = record {
  named = λ one among. Contains-append_left seen (name ∷ []) (entry_name one.task) (are.named one among);
  each = are.each;
  every = λ task entry reads among. elim (contains_last seen (entry_name task) name among) [
    | inl there ↦ are.every task entry reads there
    | inr here ↦ absurd (none task entry reads here)
  ];
  rising = are.rising;
}

module _ (files : Files) (seen : List (List ℕ)) (name : List ℕ) (kept : List Kept) (one : Kept) (entry : Entry)
    (at : entry_name one.task ≡ name) (reads : Reads files one.task entry) (of : IsKeptOf files entry one) (are : AreKeptUnder files seen kept) where
  more_named : (other : Kept) → Contains (kept ++ one ∷ []) other → Contains (seen ++ name ∷ []) (entry_name other.task)
  more_named other among = elim (Contains-push_cases kept one other among) [
    | inl there ↦ Contains-append_left seen (name ∷ []) (entry_name other.task) (are.named other there)
    | inr here ↦ subst (Contains (seen ++ name ∷ [])) (sym at ∙ ap (λ (k : Kept). entry_name k.task) here) (Contains-push seen name)
  ]

  more_each : (other : Kept) → Contains (kept ++ one ∷ []) other → (e : Entry) × Reads files other.task e × IsKeptOf files e other
  more_each other among = elim (Contains-push_cases kept one other among) [
    | inl there ↦ are.each other there
    | inr here ↦ subst (λ (k : Kept). (e : Entry) × Reads files k.task e × IsKeptOf files e k) here (entry, reads, of)
  ]

  more_every : (task : List ℕ) (e : Entry) → Reads files task e → Contains (seen ++ name ∷ []) (entry_name task) → (other : Kept) × Contains (kept ++ one ∷ []) other × IsKeptOf files e other
  more_every task e reads_too among = elim (contains_last seen (entry_name task) name among) [
    | inl there ↦ let found = are.every task e reads_too there in (found.0, Contains-append_left kept (one ∷ []) found.0 found.1, found.2)
    | inr here ↦
        let same : one.task ≡ task = same_entry one.task task reads.named reads_too.named (at ∙ sym here) in
        let alike : entry ≡ e = one_entry files task entry e (subst (λ (t : List ℕ). Reads files t entry) same reads) reads_too in
        (one, Contains-push kept one, subst (λ (f : Entry). IsKeptOf files f one) alike of)
  ]

  more_rising : IsInOrder (seen ++ name ∷ []) → IsInOrder (map (λ k. entry_name k.task) (kept ++ one ∷ []))
  more_rising order =
      subst IsInOrder (sym (map-append (λ (k : Kept). entry_name k.task) kept (one ∷ [])))
      (in_order_push (map (λ k. entry_name k.task) kept) (entry_name one.task) are.rising
      (λ x among.
      let found = contains_unmap (λ (k : Kept). entry_name k.task) kept x among in
      let earlier = are.named found.0 found.1 in
      subst (λ (y : List ℕ). path_cmp x y ≡ Less) (sym at) (last_above seen name x order (subst (Contains seen) found.2 earlier))))

  pub more_kept : IsInOrder (seen ++ name ∷ []) → AreKeptUnder files (seen ++ name ∷ []) (kept ++ one ∷ [])
  more_kept order = record { named = more_named; each = more_each; every = more_every; rising = more_rising order }

-- what is read of all names
pub all_kept : (files : Files) (kept : List Kept) → AreKeptUnder files (names files) kept → AreKept files kept
all_kept files kept are = record {
  each = are.each;
  every = λ task entry reads. are.every task entry reads (name_from_there files (entry_name task) _ reads.text);
  rising = are.rising;
}

-- ---- what is kept of the files is kept of them without their unpublished generations

takes_none : (gone : List (List ℕ)) → takes_out gone None ≡ None
takes_none [] = refl
takes_none (name ∷ gone) = takes_none gone

entry_stays : (files : Files) (task : List ℕ) → IsTaskName task → IsUnpublished files (entry_name task) → ⊥
entry_stays files task named (t, n, of, none) = entry_not_generation task t n of.below.0 named of.named of.below.1

generation_stays : (files : Files) (task : List ℕ) (entry : Entry) (name : List ℕ) → Reads files task entry → IsOf entry.task entry.generation name → IsUnpublished files name → ⊥
generation_stays files task entry name reads of (t, n, of_too, none) =
    let same = one_generation t entry.task n entry.generation name of_too of in
    none (entry, subst (λ (u : List ℕ). Reads files u entry) (sym (same.0 ∙ reads.own)) reads, sym same.1)

module _ (files now : Files) (same : (name : List ℕ) → (IsUnpublished files name → ⊥) → get now name ≡ get files name) where
  entry_still : (task : List ℕ) (entry : Entry) → Reads files task entry → Reads now task entry
  entry_still task entry reads = reads_along now files task entry (sym (same (entry_name task) (entry_stays files task reads.named))) reads

  entry_before : (task : List ℕ) (entry : Entry) → Reads now task entry → Reads files task entry
  entry_before task entry reads = reads_along files now task entry (same (entry_name task) (entry_stays files task reads.named)) reads

  names_still : (task : List ℕ) (entry : Entry) (below : List (List ℕ)) → Reads files task entry → AreNamesOf files entry.task entry.generation below → AreNamesOf now entry.task entry.generation below
  names_still task entry below reads are = record {
    each = λ name among.
        let found = are.each name among in
        (found.0, λ none. found.1 (sym (same name (generation_stays files task entry name reads found.0)) ∙ none));
    every = λ name of there. are.every name of (λ none. there (same name (generation_stays files task entry name reads of) ∙ none));
    rising = are.rising;
  }

  kept_still : (task : List ℕ) (entry : Entry) (kept : Kept) → Reads files task entry → IsKeptOf files entry kept → IsKeptOf now entry kept
  kept_still task entry kept reads of = record {
    task = of.task;
    input = of.input;
    generation = of.generation;
    digests = of.digests;
    names = names_still task entry kept.names reads of.names;
  }

  all_still : (opening : List Kept) → AreKept files opening → AreKept now opening
  all_still opening are = record {
    each = λ kept among.
        let found = are.each kept among in
        (found.0, entry_still kept.task found.0 found.1, kept_still kept.task found.0 kept found.1 found.2);
    every = λ task entry reads.
        let before = entry_before task entry reads in
        let found = are.every task entry before in
        (found.0, found.1, kept_still task entry found.0 before found.2);
    rising = are.rising;
  }

pub kept_after : (before now : Option Files) (gone : List (List ℕ)) (opening : List Kept) → now ≡ takes_out gone before → PublishedStay before now → IfSome before (λ files. AreKept files opening) → IfSome now (λ files. AreKept files opening)
kept_after None now gone opening is stay are = subst (λ (c : Option Files). IfSome c (λ files. AreKept files opening)) (sym (is ∙ takes_none gone)) tt
kept_after (Some files) None gone opening is stay are = tt
kept_after (Some files) (Some now) gone opening is stay are = all_still files now (λ name other. same_Some _ _ (stay name other)) opening are
