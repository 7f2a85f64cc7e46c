-- What a name is of, as it is read.
use Rattle.std.proofs.Common.{◌≡◌, ℕ, List, ◌∷◌, ◌++◌, drop, codes, refl, sym, ap, ap₂, subst, ◌∙◌}
use Rattle.std.specs.Fmt.{decimal}
use Rattle.value_text.specs.Texts.{slashed}
use Rattle.out_store.specs.Names.{IsTaskName, IsNumber, IsOf, IsCut, Lacks, in_generation, entry_name}
use Rattle.out_store.proofs.Cuts.{first_cut, not_lacking, exchange, exchange-exchange}
use Rattle.out_store.proofs.NameLaws.{no_dot, dotted, no_slash_number}

-- two cuts are the same
pub same_cuts : (c : ℕ) (xs a b v w : List ℕ) → IsCut c xs a v → IsCut c xs b w → (a ≡ b) × (v ≡ w)
same_cuts c xs a b v w h k = first_cut c a b v w h.lacks k.lacks (sym h.whole ∙ k.whole)

pub not_cut : (c : ℕ) (xs a v : List ℕ) → Lacks c xs → xs ≡ a ++ c ∷ v → ⊥
not_cut c xs a v lacks whole = not_lacking c a v (subst (Lacks c) whole lacks)

-- the name of a file of a generation, as it is cut at the first dot
pub in_generation_cut : (folder digits path : List ℕ) → in_generation folder digits path ≡ folder ++ 46 ∷ (codes "dest/g" ++ (digits ++ 47 ∷ path))
in_generation_cut folder digits path = refl

-- a name in which no dot stands
pub no_parts_no_dot : (name folder digits path : List ℕ) → Lacks 46 name → name ≡ in_generation folder digits path → ⊥
no_parts_no_dot name folder digits path lacks is = not_cut 46 name folder _ lacks (is ∙ in_generation_cut folder digits path)

-- what stands behind the first dot
pub behind_dot : (name before behind folder digits path : List ℕ) → IsCut 46 name before behind → Lacks 46 folder → name ≡ in_generation folder digits path → (before ≡ folder) × (behind ≡ codes "dest/g" ++ (digits ++ 47 ∷ path))
behind_dot name before behind folder digits path is lacks whole =
    first_cut 46 before folder behind (codes "dest/g" ++ (digits ++ 47 ∷ path)) is.lacks lacks (sym is.whole ∙ whole ∙ in_generation_cut folder digits path)

pub whole_again : (name folder behind rest digits path : List ℕ) → IsCut 46 name folder behind → behind ≡ codes "dest/g" ++ rest → IsCut 47 rest digits path → name ≡ in_generation folder digits path
whole_again name folder behind rest digits path first is second =
    first.whole ∙ ap (λ (b : List ℕ). folder ++ 46 ∷ b) (is ∙ ap (λ (r : List ℕ). codes "dest/g" ++ r) second.whole) ∙ sym (in_generation_cut folder digits path)

-- ---- the folder of a task

pub folder_again : (folder task : List ℕ) → task ≡ exchange 47 46 folder → Lacks 46 folder → folder ≡ slashed task
folder_again folder task is lacks = sym (exchange-exchange 47 46 folder lacks) ∙ ap slashed (sym is)

pub task_again : (folder task found : List ℕ) → found ≡ exchange 47 46 folder → IsTaskName task → folder ≡ slashed task → found ≡ task
task_again folder task found is name same = is ∙ ap (exchange 47 46) same ∙ dotted task name

-- the parts of the name of a generation's file are its task's and its number's
pub same_parts : (name folder digits path task : List ℕ) (number : ℕ) → Lacks 46 folder → Lacks 47 digits → name ≡ in_generation folder digits path → IsOf task number name → (folder ≡ slashed task) × (digits ≡ decimal number)
same_parts name folder digits path task number lacks more is of =
    let whole : folder ++ 46 ∷ (codes "dest/g" ++ (digits ++ 47 ∷ path)) ≡ slashed task ++ 46 ∷ (codes "dest/g" ++ (decimal number ++ 47 ∷ of.below.0)) = sym is ∙ of.below.1 in
    let both = first_cut 46 folder (slashed task) _ _ lacks (no_dot task) whole in
    let rest : digits ++ 47 ∷ path ≡ decimal number ++ 47 ∷ of.below.0 = ap (drop 6) both.1 in
    (both.0, (first_cut 47 digits (decimal number) path of.below.0 more (no_slash_number number of.counted) rest).0)

pub of_parts : (name folder digits path task : List ℕ) (number : ℕ) → name ≡ in_generation folder digits path → IsTaskName task → IsNumber number → folder ≡ slashed task → digits ≡ decimal number → IsOf task number name
of_parts name folder digits path task number is named counted same same_digits =
    record { named = named; counted = counted; below = (path, is ∙ ap₂ (λ (f d : List ℕ). in_generation f d path) same same_digits) }

pub entry_folder : (name before behind task : List ℕ) → IsCut 46 name before behind → name ≡ entry_name task → (before ≡ slashed task) × (behind ≡ codes "json")
entry_folder name before behind task is same = first_cut 46 before (slashed task) behind (codes "json") is.lacks (no_dot task) (sym is.whole ∙ same)

pub entry_again : (name before behind task : List ℕ) → IsCut 46 name before behind → behind ≡ codes "json" → before ≡ slashed task → name ≡ entry_name task
entry_again name before behind task is ending folder = is.whole ∙ ap₂ (λ (f e : List ℕ). f ++ 46 ∷ e) folder ending
