-- Laws of small class files.
use Rattle.std.proofs.Common.{◌≡◌, ℕ, List, length, set, None, refl, ap, ◌∙◌}
use Rattle.std.specs.Str.{bytes_eq}
use Rattle.std.proofs.lemmas.Bool.{and_right, false_from_ne_true}
use Rattle.std.proofs.lemmas.List.{length-set}
use Rattle.std.proofs.lemmas.Slice.Eq.{bytes_eq-Decides}
use Rattle.mill_top.specs.declared.small_file.SmallFile.{SmallFile}
use Rattle.mill_top.specs.declared.small_file.TheConstants.{SMALL_TEMPLATE}
use Rattle.mill_top.specs.SmallFiles.{small_file, is_small_within, is_small_file, small_of, small_free}

length-small_file : (file : SmallFile) → length (small_file file) ≡ 164
unfolding small_file
length-small_file file = length-set (set (set SMALL_TEMPLATE 13 file.class) 42 file.task) 139 file.opcode ∙ length-set (set SMALL_TEMPLATE 13 file.class) 42 file.task ∙ length-set SMALL_TEMPLATE 13 file.class

pub other_length : (bytes : List ℕ) → (length bytes ≡ 164 → ⊥) → small_of bytes ≡ None
unfolding small_of is_small_file
other_length bytes h =
    let file = small_free bytes in
    rw (and_right (is_small_within file) (bytes_eq bytes (small_file file)) (false_from_ne_true _ (λ same. h (ap length ((bytes_eq-Decides bytes (small_file file)).0 same) ∙ length-small_file file)))) refl
