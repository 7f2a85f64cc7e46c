-- Equal input hashes are of equal class files, where no texts collide.
use Rattle.std.proofs.Common.{◌≡◌, ℕ, ℤ, zero, suc, ◌+◌, ◌<◌, ◌≤◌, ◌^◌, List, [], ◌∷◌, ◌++◌, length, codes, Contains, flat_map, refl, sym, ap, subst, ◌∙◌, arith, length-append, lit<}
use Rattle.std.specs.Option.{option_map_or}
use Rattle.std.specs.Fmt.{decimal}
use Rattle.std.proofs.lemmas.List.{same_from_push}
use Rattle.std.proofs.lemmas.List.Elements.{Contains-append_left, Contains-append_right}
use Rattle.hex.specs.Hex.{encode_lower}
use Rattle.sha2.specs.Sha256.{sha256}
use Rattle.io_traits.specs.Files.{Files}
use Rattle.tree_value.specs.Digests.{IsDigest}
use Rattle.tree_value.specs.Nets.{net}
use Rattle.tree_value.proofs.NetLemmas.{net-parts, same_net}
use Rattle.tree_value.proofs.DigestLemmas.{IsDigest-sha256, same_hex}
use Rattle.mill_top.specs.declared.recorded.Record.{Record}
use Rattle.class_read.specs.ClassFiles.{class_files}
use Rattle.mill_top.specs.Builds.{task_file_of}
use Rattle.mill_top.specs.Graphs.{task_files, task_in, graph_of}
use Rattle.mill_top.specs.Inputs.{nets, paths_and_bytes, whole_row, method_of, method_text, value_fields, input_text, input_hash, scratch_values, Run, texts, Clean, IsDigested}
use Rattle.mill_top.specs.Scratch.{scratch, scratch_in}
use Rattle.std.specs.List.{filter_map}

length-net : (x r : List ℕ) → length (net x ++ r) ≡ length (decimal (length x)) + suc (length x + suc (length r))
length-net x r = ap length (net-parts x r) ∙ length-append (decimal (length x)) (58 ∷ (x ++ 44 ∷ r)) ∙ ap (λ n. length (decimal (length x)) + suc n) (length-append x (44 ∷ r))

-- each text is within the nets
part_within : (front rest : List (List ℕ)) (x : List ℕ) → length x ≤ length (nets (front ++ x ∷ rest))
part_within [] rest x = omega (arith, length-net x (nets rest))
part_within (y ∷ front) rest x = omega (arith, length-net y (nets (front ++ x ∷ rest)), part_within front rest x)

-- a list of texts is read back from its nets
nets_same : (xs ys : List (List ℕ)) → length (nets xs) < 2 ^ 64 → nets xs ≡ nets ys → xs ≡ ys
nets_same [] [] fits e = refl
nets_same [] (y ∷ ys) fits e = absurd (omega (arith, length-net y (nets ys), ap length e))
nets_same (x ∷ xs) [] fits e = absurd (omega (arith, length-net x (nets xs), ap length e))
nets_same (x ∷ xs) (y ∷ ys) fits e =
    let first = length-net x (nets xs) in
    let second = length-net y (nets ys) in
    let same_length = ap length e in
    let both = same_net x y (nets xs) (nets ys) (omega (arith, fits, first)) (omega (arith, fits, second, same_length)) e in
    let rest = nets_same xs ys (omega (arith, fits, first)) both.1 in
    λ i. both.0 i ∷ rest i

files_same : (a b : Files) → paths_and_bytes a ≡ paths_and_bytes b → a ≡ b
files_same [] [] e = refl
files_same [] (y ∷ b) e = cc
files_same (x ∷ a) [] e = cc
files_same (x ∷ a) (y ∷ b) e =
    let path : x.0 ≡ y.0 = cc in
    let bytes : x.1 ≡ y.1 = cc in
    let tail : paths_and_bytes a ≡ paths_and_bytes b = cc in
    let rest = files_same a b tail in
    λ i. (path i, bytes i) ∷ rest i

rows_same : (r s : Record) → length (whole_row r) < 2 ^ 64 → whole_row r ≡ whole_row s → class_files r.files ≡ class_files s.files
unfolding whole_row
rows_same r s fits e =
    let lists = nets_same (codes "W" ∷ paths_and_bytes (class_files r.files)) (codes "W" ∷ paths_and_bytes (class_files s.files)) fits e in
    let tail : paths_and_bytes (class_files r.files) ≡ paths_and_bytes (class_files s.files) = cc in
    files_same (class_files r.files) (class_files s.files) tail

methods_same : (r s : Record) (task : List ℕ) → length (method_text r task) < 2 ^ 64
    → method_text r task ≡ method_text s task → class_files r.files ≡ class_files s.files
unfolding method_text
methods_same r s task fits e =
    let front_r : List (List ℕ) = codes "method1" ∷ option_map_or method_of (task_in r.files task) [] in
    let front_s : List (List ℕ) = codes "method1" ∷ option_map_or method_of (task_in s.files task) [] in
    let lists : front_r ++ whole_row r ∷ [] ≡ front_s ++ whole_row s ∷ [] = nets_same (front_r ++ whole_row r ∷ []) (front_s ++ whole_row s ∷ []) fits e in
    let row : whole_row r ≡ whole_row s = (same_from_push front_r front_s (whole_row r) (whole_row s) lists).1 in
    let within = part_within front_r [] (whole_row r) in
    rows_same r s (omega (arith, fits, within)) row

hashes_same : (r s : Record) (task : List ℕ) (values others : List ℤ) → length (input_text r task values) < 2 ^ 64
    → input_text r task values ≡ input_text s task others → sha256 (method_text r task) ≡ sha256 (method_text s task)
unfolding input_text
hashes_same r s task values others fits e =
    let hex_r = encode_lower (sha256 (method_text r task)) in
    let hex_s = encode_lower (sha256 (method_text s task)) in
    let all_r : List (List ℕ) = codes "input1" ∷ task ∷ codes "cached" ∷ codes "10000000" ∷ hex_r ∷ flat_map value_fields values in
    let all_s : List (List ℕ) = codes "input1" ∷ task ∷ codes "cached" ∷ codes "10000000" ∷ hex_s ∷ flat_map value_fields others in
    let lists : all_r ≡ all_s = nets_same all_r all_s fits e in
    let same : hex_r ≡ hex_s = cc in
    same_hex (sha256 (method_text r task)) (sha256 (method_text s task)) (IsDigest-sha256 (method_text r task)) (IsDigest-sha256 (method_text s task)) same

has_method : (run : Run) → Contains (texts run) (method_text run.inputs run.task)
has_method run = (0, omega arith, refl)

has_input : (run : Run) → Contains (texts run) (input_text run.inputs run.task (scratch_values run.inputs run.task))
has_input run = (1, omega arith, refl)

in_texts : (runs : List Run) (run : Run) (text : List ℕ) → Contains runs run → Contains (texts run) text → Contains (flat_map texts runs) text
in_texts [] run text (k, within, is) inside = absurd (omega arith)
in_texts (one ∷ runs) run text (zero, within, is) inside =
    Contains-append_left (texts one) (flat_map texts runs) text (subst (λ own. Contains (texts own) text) (sym is) inside)
in_texts (one ∷ runs) run text (suc k, within, is) inside =
    Contains-append_right (texts one) (flat_map texts runs) text (in_texts runs run text (k, omega arith, is) inside)

-- a task over equal class files has equal outcomes from scratch
classes_scratch : (r s : Record) (task : List ℕ) → class_files r.files ≡ class_files s.files → scratch r task ≡ scratch s task
unfolding scratch task_files
classes_scratch r s task same = ap (λ files. scratch_in (graph_of (filter_map (λ file. task_file_of file.1) files)) task) same

-- two runs of a task with equal input hashes have equal outcomes from scratch
pub same_scratch : (all : List Run) (one other : Run) → Clean (flat_map texts all) → Contains all one → Contains all other
    → IsDigested one.inputs one.task (scratch_values one.inputs one.task) → one.task ≡ other.task
    → input_hash one.inputs one.task (scratch_values one.inputs one.task) ≡ input_hash other.inputs other.task (scratch_values other.inputs other.task)
    → scratch one.inputs one.task ≡ scratch other.inputs other.task
unfolding input_hash
same_scratch all one other clean has_one has_other digested same_task e =
    let task = one.task in
    let run : Run = record { inputs = other.inputs; task = task } in
    let values_one = scratch_values one.inputs task in
    let values_run = scratch_values other.inputs task in
    let has_run : Contains all run = subst (Contains all) (λ i. record { inputs = other.inputs; task = sym same_task i }) has_other in
    let hash : sha256 (input_text one.inputs task values_one) ≡ sha256 (input_text other.inputs task values_run) = e ∙ ap (λ t. sha256 (input_text other.inputs t (scratch_values other.inputs t))) (sym same_task) in
    let in_one = in_texts all one (input_text one.inputs task values_one) has_one (has_input one) in
    let in_run = in_texts all run (input_text other.inputs task values_run) has_run (has_input run) in
    let inputs = clean (input_text one.inputs task values_one) (input_text other.inputs task values_run) in_one in_run hash in
    let methods = hashes_same one.inputs other.inputs task values_one values_run digested.input inputs in
    let m_one = in_texts all one (method_text one.inputs task) has_one (has_method one) in
    let m_run = in_texts all run (method_text other.inputs task) has_run (has_method run) in
    let method = clean (method_text one.inputs task) (method_text other.inputs task) m_one m_run methods in
    let classes = methods_same one.inputs other.inputs task digested.method method in
    classes_scratch one.inputs other.inputs task classes ∙ ap (scratch other.inputs) same_task
