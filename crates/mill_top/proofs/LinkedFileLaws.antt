-- Laws of linked class files.
use Rattle.std.proofs.Common.{◌≡◌, ℕ, List, length, set, slice_index, Option, Some, None, option_and_then, refl, ap, ◌∙◌}
use Rattle.std.specs.Str.{bytes_eq}
use Rattle.std.proofs.lemmas.Bool.{and_right, false_from_ne_true}
use Rattle.std.proofs.lemmas.List.{length-set}
use Rattle.std.proofs.lemmas.Slice.Eq.{bytes_eq-Decides}
use Rattle.mill_top.specs.declared.linked_file.LinkedFile.{LinkedFile}
use Rattle.mill_top.specs.declared.linked_file.TheConstants.{LINKED_TEMPLATE}
use Rattle.mill_top.specs.declared.operation.Operation.{Operation}
use Rattle.mill_top.specs.LinkedFiles.{operation_opcode, operation_of, linked_file, is_linked_within, is_linked_file, if_linked_file, linked_of, linked_free}

length-linked_file : (file : LinkedFile) → length (linked_file file) ≡ 188
unfolding linked_file
length-linked_file file =
    let class = set LINKED_TEMPLATE 13 file.class in
    let task = set class 42 file.task in
    let input = set task 118 file.input in
    let opcode = set input 154 file.opcode in
    length-set opcode 155 (operation_opcode file.operation)
    ∙ length-set input 154 file.opcode
    ∙ length-set task 118 file.input
    ∙ length-set class 42 file.task
    ∙ length-set LINKED_TEMPLATE 13 file.class

other_file : (bytes : List ℕ) (file : LinkedFile) → (length bytes ≡ 188 → ⊥) → if_linked_file file bytes ≡ None
unfolding is_linked_file
other_file bytes file h =
    rw (and_right (is_linked_within file) (bytes_eq bytes (linked_file file)) (false_from_ne_true _ (λ same. h (ap length ((bytes_eq-Decides bytes (linked_file file)).0 same) ∙ length-linked_file file)))) refl

other_operation : (bytes : List ℕ) (operation : Option Operation) → (length bytes ≡ 188 → ⊥)
    → option_and_then (λ operation. if_linked_file (linked_free bytes operation) bytes) operation ≡ None
other_operation bytes None h = refl
other_operation bytes (Some operation) h = other_file bytes (linked_free bytes operation) h

pub other_length : (bytes : List ℕ) → (length bytes ≡ 188 → ⊥) → linked_of bytes ≡ None
unfolding linked_of
other_length bytes h = other_operation bytes (operation_of (slice_index bytes 155)) h
