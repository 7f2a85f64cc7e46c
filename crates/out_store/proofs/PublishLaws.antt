-- The entry of a run, and what it puts.
use Rattle.std.proofs.Common.{◌≡◌, ℕ, ◌&&◌, List, [], ◌∷◌, All, Option, refl, sym, ap, ap₂, subst, ◌∙◌}
use Rattle.std.specs.FinMap.Entries.{is_sorted, below_all}
use Rattle.std.specs.Ordering.{is_lt}
use Rattle.std.proofs.lemmas.List.Elements.{All-map}
use Rattle.io_traits.specs.Files.{File, Files}
use Rattle.out_entry.specs.Entries.{IsFileName, IsEntry, entry_text}
use Rattle.out_store.specs.Changes.{puts_in, LeftByPuts}
use Rattle.out_store.specs.Names.{IsNumber, entry_name, log_name}
use Rattle.out_store.specs.Publishing.{digests, entry_of, dest_puts, puts_of, log_text}
use Rattle.out_store.specs.declared.finished.Finished.{Finished}
use Rattle.out_store.proofs.ChangeLaws.{puts_in-append, left_by_front, left_by_back}
use Rattle.sha2.specs.Sha256.{sha256}
use Rattle.tree_value.specs.Trees.{IsTree, path_cmp}

below_digests : (path : List ℕ) (files : List File) → below_all path_cmp path (digests files) ≡ below_all path_cmp path files
below_digests path [] = refl
below_digests path (file ∷ files) = ap (λ b. is_lt (path_cmp path file.0) && b) (below_digests path files)

sorted_digests : (files : List File) → is_sorted path_cmp (digests files) ≡ is_sorted path_cmp files
sorted_digests [] = refl
sorted_digests (file ∷ files) = ap₂ (λ a b. a && b) (below_digests file.0 files) (sorted_digests files)

-- the entry of a run is one
pub is_entry : (run : Finished) (number : ℕ) → IsNumber number → All IsFileName run.dest → IsTree run.dest → IsEntry (entry_of run number)
is_entry run number counted named tree = record {
  counted = counted.0;
  named = All-map IsFileName (λ (file : File). (file.0, sha256 file.1)) run.dest named;
  rising = sorted_digests run.dest ∙ tree.rising;
}

module _ (run : Finished) (number : ℕ) (last : List File)
    (is : last ≡ (log_name run.task, log_text run.log) ∷ (entry_name run.task, entry_text (entry_of run number)) ∷ []) (old mid : Option Files) where
  -- the puts of the dest's files, and then the last two
  pub whole_publish : (new : Option Files) → mid ≡ puts_in (dest_puts run.task number run.dest) old → new ≡ puts_in last mid → new ≡ puts_in (puts_of run number) old
  whole_publish new first second =
      second ∙ ap₂ (λ (ys : List File) (c : Option Files). puts_in ys c) is first
      ∙ sym (puts_in-append (dest_puts run.task number run.dest) ((log_name run.task, log_text run.log) ∷ (entry_name run.task, entry_text (entry_of run number)) ∷ []) old)

  pub front_left : LeftByPuts (dest_puts run.task number run.dest) old mid → LeftByPuts (puts_of run number) old mid
  front_left left = left_by_front (dest_puts run.task number run.dest) ((log_name run.task, log_text run.log) ∷ (entry_name run.task, entry_text (entry_of run number)) ∷ []) old mid left

  pub back_left : (new : Option Files) → mid ≡ puts_in (dest_puts run.task number run.dest) old → LeftByPuts last mid new → LeftByPuts (puts_of run number) old new
  back_left new first left =
      left_by_back (dest_puts run.task number run.dest) ((log_name run.task, log_text run.log) ∷ (entry_name run.task, entry_text (entry_of run number)) ∷ []) old new
      (subst (λ (ys : List File). LeftByPuts ys (puts_in (dest_puts run.task number run.dest) old) new) is (subst (λ (c : Option Files). LeftByPuts last c new) first left))

-- the last two puts
abbrev pub texts : List ℕ → List ℕ → List ℕ → List ℕ → List File
texts l t e u = (l, t) ∷ (e, u) ∷ []

pub two_puts : (l t e u l' t' e' u' : List ℕ) → l ≡ l' → t ≡ t' → e ≡ e' → u ≡ u' → texts l t e u ≡ texts l' t' e' u'
two_puts l t e u l' t' e' u' first second third fourth = λ i. texts (first i) (second i) (third i) (fourth i)
