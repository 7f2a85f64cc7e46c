-- Natives on files, the log and the environment: mill/Fs, mill/PathRef, mill/Log and mill/Env.
use Rattle.std.specs.Prelude.{ℕ, ◌+◌, ◌==◌, nat_le, pos, Bool, false, not, ◌&&◌, ◌||◌, List, [], ◌∷◌, ◌++◌, length, map, sum_by, codes, bytes_eq, Option, Some, None, is_some, option_map, option_and_then, if◌then◌else◌}
use Rattle.std.specs.List.{list_any}
use Rattle.std.specs.Str.{is_utf8}
use Rattle.std.specs.FinMap.Entries as entries
use Rattle.std.specs.Int.{w64, cast_signed}
use Rattle.jvm_heap.specs.Objects.{text, listed, path_reference}
use Rattle.jvm_heap.specs.Heaps.{allocated}
use Rattle.line_text.specs.Lines.{line_of_units}
use Rattle.tree_value.specs.Trees.{path_cmp, files_below, path_below}
use Rattle.native_model.specs.declared.budget.Budget.TheVariants as budgets
use Rattle.native_model.specs.Texts.{units_of_text, text_of_units}
use Rattle.native_model.specs.Paths.{path_of_units, is_path, joined}
use Rattle.native_model.specs.Worlds.{NamedHeap, Surround, World, Reference, as_text, as_reference}
use Rattle.native_model.specs.Thrown.{denied, file_fault}
use Rattle.native_model.specs.Answers.{Answer, throws, needs_file, needs_names, spends, Last, file, names, Progress, gives_nothing, gives_long, gives_reference, gives_made, gives_text, on}
use Rattle.native_model.specs.Lists.{fixed_list}

-- a reference and the units of a path
abbrev pub on_place : ℕ → ℕ → World → (Reference → List ℕ → Answer) → Answer
on_place r s w next = on as_reference r w (λ reference. on as_text s w (λ units. next reference units))

abbrev pub or_denied : Option (List ℕ) → (List ℕ → Answer) → Answer
or_denied None next = throws (denied (codes "path"))
or_denied (Some path) next = next path

abbrev pub is_owner : List ℕ → Option (List ℕ) → Bool
is_owner owner None = false
is_owner owner (Some mine) = bytes_eq owner mine

-- a reference into the body's own dest
abbrev pub is_own : Reference → World → Bool
is_own reference w = is_owner reference.owner w.owner

-- the file at a path of a tree, told by what is done with its bytes; it is looked up in the dest, or asked for
abbrev pub told_by : (Option (List ℕ) → Answer) → Answer → Last → Answer
told_by done asked (file found) = done found
told_by done asked _ = asked

abbrev pub file_of : Reference → List ℕ → Progress → World → (Option (List ℕ) → Answer) → Answer
file_of reference path p w done =
    if is_own reference w then done (entries.find path_cmp (joined reference.path path) w.dest)
    else told_by done (needs_file reference path) p.last

abbrev pub text_read : List ℕ → World → Option (List ℕ) → Answer
text_read units w None = throws (file_fault units)
text_read units w (Some bytes) = if is_utf8 bytes then gives_text (units_of_text bytes) w else throws (file_fault units)

abbrev pub fs_read : ℕ → ℕ → Progress → World → Answer
fs_read r s p w =
    on_place r s w (λ reference units. or_denied (path_of_units units) (λ path. file_of reference path p w (text_read units w)))

abbrev pub size_read : List ℕ → World → Option (List ℕ) → Answer
size_read units w None = throws (file_fault units)
size_read units w (Some bytes) = gives_long (pos (length bytes)) w

abbrev pub fs_size : ℕ → ℕ → Progress → World → Answer
fs_size r s p w =
    on_place r s w (λ reference units. or_denied (path_of_units units) (λ path. file_of reference path p w (size_read units w)))

-- texts are made in order, then their list
abbrev pub texts_made : List (List ℕ) → NamedHeap → Option (List ℕ × NamedHeap)
texts_made [] h = Some ([], h)
texts_made (path ∷ paths) h =
    option_and_then (λ one. option_map (λ more. (one.0 ∷ more.0, more.1)) (texts_made paths one.1)) (allocated (text (units_of_text path)) h)

abbrev pub list_of_texts : List (List ℕ) → NamedHeap → Option (ℕ × NamedHeap)
list_of_texts paths h = option_and_then (λ made. allocated (listed fixed_list made.0) made.1) (texts_made paths h)

abbrev pub names_told : World → Answer → Last → Answer
names_told w asked (names paths) = gives_made w (list_of_texts paths w.heap)
names_told w asked _ = asked

abbrev pub own_names : Reference → World → List (List ℕ)
own_names reference w = map (λ f. f.0) (files_below reference.path w.dest)

abbrev pub names_of : Reference → Progress → World → Answer
names_of reference p w =
    if is_own reference w then gives_made w (list_of_texts (own_names reference w) w.heap)
    else names_told w (needs_names reference) p.last

-- paths in byte order
abbrev pub fs_list : ℕ → Progress → World → Answer
fs_list r p w = on as_reference r w (λ reference. names_of reference p w)

abbrev pub if_short : List ℕ → Option (List ℕ)
if_short path = if nat_le (length path) 700 then Some path else None

abbrev pub owned : Option (List ℕ) → (List ℕ → Answer) → Answer
owned None next = throws (denied (codes "dest"))
owned (Some owner) next = next owner

-- a path in the dest: it is denied before the dest is
abbrev pub in_dest : List ℕ → World → (List ℕ → List ℕ → Answer) → Answer
in_dest units w next = or_denied (option_and_then if_short (path_of_units units)) (λ path. owned w.owner (λ owner. next owner path))

-- one is a folder that the other stands in
abbrev pub stands_in : List ℕ → List ℕ → Bool
stands_in folder path = not (bytes_eq folder path) && is_some (path_below folder path)

-- A part of the path is a file, or the path is empty or a folder.
abbrev pub is_in_the_way : List ℕ → List (List ℕ) → Bool
is_in_the_way path others = length path == 0 || list_any (λ other. stands_in other path || stands_in path other) others

abbrev pub dest_bytes : List (List ℕ × List ℕ) → ℕ
dest_bytes files = sum_by (λ f. length f.0 + length f.1) files

abbrev pub most_dest_bytes : ℕ
most_dest_bytes = 16777216

abbrev pub with_dest : List (List ℕ × List ℕ) → World → World
with_dest dest w = record { heap = w.heap; dest = dest; log = w.log; surround = w.surround; owner = w.owner }

abbrev pub dest_put : List (List ℕ × List ℕ) → World → Answer
dest_put files w = if nat_le (dest_bytes files) most_dest_bytes then gives_nothing (with_dest files w) else spends budgets.Dest

abbrev pub written_as : List ℕ → List ℕ → World → Option (List ℕ) → Answer
written_as units path w None = throws (file_fault units)
written_as units path w (Some bytes) =
    if is_in_the_way path (map (λ f. f.0) w.dest) then throws (file_fault units) else dest_put (entries.put path_cmp path bytes w.dest) w

abbrev pub fs_write : ℕ → ℕ → World → Answer
fs_write s t w =
    on as_text s w (λ units. on as_text t w (λ content. in_dest units w (λ owner path. written_as units path w (text_of_units content))))

abbrev pub fs_dest : ℕ → World → Answer
fs_dest s w =
    on as_text s w (λ units. in_dest units w (λ owner path. gives_made w (allocated (path_reference owner path) w.heap)))

abbrev pub if_still_path : List ℕ → Option (List ℕ)
if_still_path path = if is_path path then Some path else None

abbrev pub reference_sub : ℕ → ℕ → World → Answer
reference_sub r s w =
    on_place r s w
    (λ reference units. or_denied (option_and_then (λ path. if_still_path (joined reference.path path)) (path_of_units units))
    (λ path. gives_made w (allocated (path_reference reference.owner path) w.heap)))

-- mill/Log

abbrev pub log_bytes : List (List ℕ) → ℕ
log_bytes lines = sum_by (λ line. length line + 1) lines

abbrev pub most_log_bytes : ℕ
most_log_bytes = 1048576

abbrev pub with_log : List (List ℕ) → World → World
with_log log w = record { heap = w.heap; dest = w.dest; log = log; surround = w.surround; owner = w.owner }

abbrev pub logged : List (List ℕ) → World → Answer
logged lines w = if nat_le (log_bytes lines) most_log_bytes then gives_nothing (with_log lines w) else spends budgets.Log

-- a line as it is put
abbrev pub log_info : ℕ → World → Answer
log_info s w = on as_text s w (λ units. logged (w.log ++ line_of_units units ∷ []) w)

-- mill/Env

abbrev pub surrounded : Option Surround → (Surround → Answer) → Answer
surrounded None next = throws (denied (codes "env"))
surrounded (Some around) next = next around

-- the first variable of a name
abbrev pub variable : List (List ℕ × List ℕ) → List ℕ → Option (List ℕ)
variable [] name = None
variable (v ∷ variables) name = if bytes_eq v.0 name then Some v.1 else variable variables name

abbrev pub gives_variable : World → Option (List ℕ) → Answer
gives_variable w None = gives_reference 0 w
gives_variable w (Some bytes) = gives_text (units_of_text bytes) w

abbrev pub env_get : ℕ → World → Answer
env_get s w =
    on as_text s w (λ units. surrounded w.surround (λ around. gives_variable w (option_and_then (variable around.environment) (text_of_units units))))

-- the 64 bits of the moment as a long
abbrev pub env_now : World → Answer
env_now w = surrounded w.surround (λ around. gives_long (cast_signed w64 around.moment) w)
