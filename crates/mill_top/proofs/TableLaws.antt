-- Laws of the table of a graph.
use Rattle.std.proofs.Common.{◌≡◌, ℕ, zero, suc, ◌+◌, ◌-◌, ◌<◌, ◌≤◌, ◌&&◌, ◌==◌, Bool, true, false, cond, List, [], ◌∷◌, map, get_or, Option, Some, None, refl, sym, ap, ◌∙◌, arith}
use Rattle.std.specs.List.{filter_map, cons_option}
use Rattle.std.proofs.lemmas.Bool.{and_parts, and_from, eqb-true, eq-eqb, ne_eqb}
use Rattle.mill_top.specs.declared.task_file.TaskFile.{TaskFile}
use Rattle.mill_top.specs.Graphs.{letters, file_with}
use Rattle.mill_top.specs.Tables.{is_placed, placed}

-- a table of what is found for each letter
pub placed-map : (f : ℕ → Option TaskFile) (letters : List ℕ) → placed (map f letters) ≡ filter_map f letters
placed-map f [] = refl
placed-map f (letter ∷ letters) = ap (cons_option (f letter)) (placed-map f letters)

found-task-by : (file : TaskFile) (rest : Option TaskFile) (task : ℕ) (found : TaskFile) (same : Bool) → (file.task == task) ≡ same
    → (rest ≡ Some found → found.task ≡ task) → cond same (Some file) rest ≡ Some found → found.task ≡ task
found-task-by file rest task found true is later e = let own : file ≡ found = cc in ap (λ (f : TaskFile). f.task) (sym own) ∙ eqb-true file.task task is
found-task-by file rest task found false is later e = later e

-- the file that is found for a task has it
pub found-task : (files : List TaskFile) (task : ℕ) (found : TaskFile) → file_with files task ≡ Some found → found.task ≡ task
found-task [] task found e = cc
found-task (file ∷ files) task found e =
    found-task-by file (file_with files task) task found (file.task == task) refl (found-task files task found) e

-- whether these are numbers from one on
abbrev is_upward : ℕ → List ℕ → Bool
is_upward letter [] = true
is_upward letter (own ∷ letters) = (own == letter) && is_upward (suc letter) letters

placed-one : (files : List TaskFile) (letter : ℕ) (places : List (Option TaskFile)) (found : Option TaskFile) → file_with files letter ≡ found
    → is_placed (suc letter) places ≡ true → is_placed letter (found ∷ places) ≡ true
placed-one files letter places None is rest = rest
placed-one files letter places (Some file) is rest = and_from _ _ (eq-eqb file.task letter (found-task files letter file is)) rest

is_placed-found : (files : List TaskFile) (letter : ℕ) (letters : List ℕ) → is_upward letter letters ≡ true → is_placed letter (map (file_with files) letters) ≡ true
is_placed-found files letter [] is = refl
is_placed-found files letter (own ∷ letters) is =
    let parts = and_parts (own == letter) (is_upward (suc letter) letters) is in
    let same : letter ≡ own = sym (eqb-true own letter parts.0) in
    placed-one files letter (map (file_with files) letters) (file_with files own) (ap (file_with files) same) (is_placed-found files (suc letter) letters parts.1)

-- the files that are found for each letter are in their places
pub is_placed-letters : (files : List TaskFile) → is_placed 97 (map (file_with files) letters) ≡ true
is_placed-letters files = is_placed-found files 97 letters refl

-- no file in the places from a letter on has a task below it
pub file_with-below : (letter : ℕ) (places : List (Option TaskFile)) (task : ℕ) → task < letter → is_placed letter places ≡ true → file_with (placed places) task ≡ None
file_with-below letter [] task less is = refl
file_with-below letter (None ∷ places) task less is = file_with-below (suc letter) places task (omega arith) is
file_with-below letter (Some file ∷ places) task less is =
    let parts = and_parts (file.task == letter) (is_placed (suc letter) places) is in
    let own : file.task ≡ letter = eqb-true file.task letter parts.0 in
    rw (ne_eqb file.task task (λ same. omega arith)) (file_with-below (suc letter) places task (omega arith) parts.1)

-- the file of a task is that in its place
pub file_with-placed : (letter : ℕ) (places : List (Option TaskFile)) (place : ℕ) → is_placed letter places ≡ true → file_with (placed places) (letter + place) ≡ get_or places place None
file_with-placed letter [] place is = refl
file_with-placed letter (None ∷ places) zero is = file_with-below (suc letter) places (letter + zero) (omega arith) is
file_with-placed letter (None ∷ places) (suc place) is = ap (file_with (placed places)) (omega arith) ∙ file_with-placed (suc letter) places place is
file_with-placed letter (Some file ∷ places) zero is =
    let parts = and_parts (file.task == letter) (is_placed (suc letter) places) is in
    let own : file.task ≡ letter = eqb-true file.task letter parts.0 in
    rw (eq-eqb file.task (letter + zero) (omega arith)) refl
file_with-placed letter (Some file ∷ places) (suc place) is =
    let parts = and_parts (file.task == letter) (is_placed (suc letter) places) is in
    let own : file.task ≡ letter = eqb-true file.task letter parts.0 in
    rw (ne_eqb file.task (letter + suc place) (λ same. omega arith)) (ap (file_with (placed places)) (omega arith) ∙ file_with-placed (suc letter) places place parts.1)

-- the file of a task, from the table
pub file_with-table : (tasks : List TaskFile) (table : List (Option TaskFile)) (task place : ℕ) → 97 ≤ task → place ≡ task - 97 → is_placed 97 table ≡ true
    → tasks ≡ placed table → file_with tasks task ≡ get_or table place None
file_with-table tasks table task place low is in_place all =
    ap (λ (files : List TaskFile). file_with files task) all
    ∙ ap (file_with (placed table)) (omega arith)
    ∙ file_with-placed 97 table place in_place
