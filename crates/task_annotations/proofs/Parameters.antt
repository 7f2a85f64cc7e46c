-- The parameters of a method are read one after another.
use Rattle.std.proofs.Common.{◌≡◌, ℕ, zero, suc, ◌<◌, ◌≤◌, List, [], ◌∷◌, ◌++◌, length, map, Option, Some, None, option_map, option_and_then, refl, sym, ◌∙◌, ap, arith, append_assoc, append-nil}
use Rattle.tree_value.specs.declared.value.ValueType.{ValueType}
use Rattle.class_model.specs.Descriptors.{FieldType, array, field_type_at, field_types_at, with_first, return_type, MethodType}
use Rattle.class_model.specs.TypeForms.{arrays}
use Rattle.class_model.proofs.Parameters.{then_types, types_end, types_of, shorter, enough, step}
use Rattle.task_annotations.specs.Declarations.{value_type, Signature, signature}
use Rattle.task_annotations.specs.Reading.{after, signature_read, parameters_read}

-- no value is an array
pub array-value : (n : ℕ) (t : FieldType) → 0 < n → value_type (arrays n t) ≡ None
array-value zero t some = absurd (omega arith)
array-value (suc zero) t some = refl
array-value (suc (suc n)) t some = array-value (suc n) (array t) (omega arith)

abbrev Types : Type 0
Types = List (Option ValueType)

abbrev pub read_on : Types → List ℕ → Option Signature
read_on before bytes = parameters_read before (types_of bytes)

abbrev typed : List FieldType → Option FieldType → MethodType
typed types r = record { parameters = types; returned = r }

abbrev reading : Types → List FieldType → Option (Option FieldType) → Option Signature
reading before types r = option_map (after before) (option_map signature (option_map (typed types) r))

ends : (before : Types) (found : Option (Option ValueType)) (rest : List ℕ) → found ≡ option_map (option_and_then value_type) (return_type rest)
    → option_map (signature_read before) found ≡ parameters_read before (Some ([], rest))
ends before found rest e = of_result (return_type rest) found e
  where
    of_result : (r : Option (Option FieldType)) (found : Option (Option ValueType)) → found ≡ option_map (option_and_then value_type) r
        → option_map (signature_read before) found ≡ reading before [] r
    of_result None found e = rw e refl
    of_result (Some r) found e = rw e (ap (λ (ts : Types). Some (signature_read ts (option_and_then value_type r))) (sym (append-nil before)))

pub closing : (before : Types) (found : Option (Option ValueType)) (bytes after : List ℕ) (b : ℕ) → bytes ≡ b ∷ after → b ≡ 41
    → found ≡ option_map (option_and_then value_type) (return_type after) → option_map (signature_read before) found ≡ read_on before bytes
closing before found bytes after b at is e =
    ends before found after e
    ∙ sym (ap (read_on before) (at ∙ ap (λ c. c ∷ after) is) ∙ ap (parameters_read before) (types_end (length (41 ∷ after)) after))

pub none_there : (before : Types) (bytes after : List ℕ) (b : ℕ) → bytes ≡ b ∷ after → (b ≡ 41 → ⊥) → field_type_at bytes ≡ None
    → read_on before bytes ≡ None
none_there before bytes after b at not e =
    ap (parameters_read before) (step bytes after b at not ∙ ap (then_types (field_types_at (length after))) e)

more_behind : (before : Types) (t : FieldType) (found : Option (List FieldType × List ℕ))
    → parameters_read before (option_map (with_first t) found) ≡ parameters_read (before ++ value_type t ∷ []) found
more_behind before t None = refl
more_behind before t (Some (types, rest)) = of_result (return_type rest)
  where
    of_result : (r : Option (Option FieldType)) → reading before (t ∷ types) r ≡ reading (before ++ value_type t ∷ []) types r
    of_result None = refl
    of_result (Some r) =
        ap (λ (ts : Types). Some (signature_read ts (option_and_then value_type r))) (sym (append_assoc before (value_type t ∷ []) (map value_type types)))

pub passed : (before : Types) (bytes after more : List ℕ) (b : ℕ) (t : FieldType) (k : Option ValueType) → bytes ≡ b ∷ after → (b ≡ 41 → ⊥)
    → field_type_at bytes ≡ Some (t, more) → k ≡ value_type t → read_on before bytes ≡ read_on (before ++ k ∷ []) more
passed before bytes after more b t k at not e same =
    let less : length more ≤ length after = omega (arith, shorter bytes t more e, ap length at) in
    ap (parameters_read before) (step bytes after b at not ∙ ap (then_types (field_types_at (length after))) e)
    ∙ more_behind before t (field_types_at (length after) more)
    ∙ ap (parameters_read (before ++ value_type t ∷ [])) (enough (length after) (length more) more less (omega arith))
    ∙ ap (λ (j : Option ValueType). read_on (before ++ j ∷ []) more) (sym same)

pub nothing_left : (before : Types) (bytes : List ℕ) → length bytes ≡ 0 → read_on before bytes ≡ None
unfolding field_types_at
nothing_left before [] e = refl
nothing_left before (b ∷ bytes) e = absurd (omega arith)
