-- The kinds of a method's parameters are read one after another.
use Rattle.std.proofs.Common.{◌≡◌, ℕ, zero, suc, ◌<◌, ◌≤◌, false, List, [], ◌∷◌, ◌++◌, length, filter_map, Option, Some, None, option_map, option_and_then, refl, sym, ◌∙◌, ap, arith, append_assoc, append-nil}
use Rattle.std.specs.Option.{option_to_list}
use Rattle.std.specs.List.{cons_option}
use Rattle.jvm_tables.specs.declared.instruction.ValueKind.{ValueKind}
use Rattle.jvm_tables.specs.declared.instruction.ValueKind.TheVariants.{Reference}
use Rattle.class_model.specs.Descriptors.{FieldType, array, field_type_at, field_types_at, with_first, behind, return_type, MethodType}
use Rattle.class_model.specs.TypeForms.{arrays}
use Rattle.class_model.proofs.Parameters.{then_types, types_end, types_of, shorter, enough, step}
use Rattle.class_code.specs.Types.{kind, Signature, signature, after, object_name, result_of, read}
use Rattle.class_code.specs.Sites.{is_object, is_string}
use Rattle.class_code.specs.declared.types.Returned.{Returned}

-- what is so of each array is so of one of n dimensions
array_at : {A : Type 0} (f : FieldType → A) (a : A) → ((t : FieldType) → f (array t) ≡ a) → (n : ℕ) (t : FieldType) → 0 < n → f (arrays n t) ≡ a
array_at f a each zero t some = absurd (omega arith)
array_at f a each (suc zero) t some = each t
array_at f a each (suc (suc n)) t some = array_at f a each (suc n) (array t) (omega arith)

-- an array is a reference, and no class
pub array-kind : (n : ℕ) (t : FieldType) → 0 < n → kind (arrays n t) ≡ Some Reference
array-kind = array_at kind (Some Reference) (λ t. refl)

pub array-is_object : (n : ℕ) (t : FieldType) → 0 < n → is_object (arrays n t) ≡ false
array-is_object = array_at is_object false (λ t. refl)

pub array-object_name : (n : ℕ) (t : FieldType) → 0 < n → object_name (arrays n t) ≡ None
array-object_name = array_at object_name None (λ t. refl)

pub array-is_string : (n : ℕ) (t : FieldType) → 0 < n → is_string (arrays n t) ≡ false
array-is_string = array_at is_string false (λ t. refl)

abbrev taken_of : List FieldType → List ValueKind
taken_of = filter_map kind

abbrev reading : List ValueKind → Option MethodType → Option Signature
reading kinds found = option_map (after kinds) (option_map signature found)

abbrev pub read_on : List ValueKind → List ℕ → Option Signature
read_on kinds bytes = reading kinds (option_and_then behind (types_of bytes))

ends : (kinds : List ValueKind) (found : Option Returned) (after : List ℕ) → option_map result_of found ≡ return_type after
    → option_map (read kinds) found ≡ reading kinds (behind ([], after))
ends kinds None after e = rw (← e) refl
ends kinds (Some r) after e = rw (← e) (ap (λ (ks : List ValueKind). Some (read ks r)) (sym (append-nil kinds)))

pub closing : (kinds : List ValueKind) (found : Option Returned) (bytes after : List ℕ) (b : ℕ) → bytes ≡ b ∷ after → b ≡ 41
    → option_map result_of found ≡ return_type after → option_map (read kinds) found ≡ read_on kinds bytes
closing kinds found bytes after b at is e =
    ends kinds found after e
    ∙ sym (ap (read_on kinds) (at ∙ ap (λ c. c ∷ after) is) ∙ ap (λ (o : Option (List FieldType × List ℕ)). reading kinds (option_and_then behind o)) (types_end (length (41 ∷ after)) after))

pub none_there : (kinds : List ValueKind) (bytes after : List ℕ) (b : ℕ) → bytes ≡ b ∷ after → (b ≡ 41 → ⊥) → field_type_at bytes ≡ None
    → read_on kinds bytes ≡ None
none_there kinds bytes after b at not e =
    ap (λ (o : Option (List FieldType × List ℕ)). reading kinds (option_and_then behind o)) (step bytes after b at not ∙ ap (then_types (field_types_at (length after))) e)

taken-first : (kinds : List ValueKind) (t : FieldType) (types : List FieldType)
    → kinds ++ taken_of (t ∷ types) ≡ (kinds ++ option_to_list (kind t)) ++ taken_of types
taken-first kinds t types = of_kind (kind t)
  where
    of_kind : (o : Option ValueKind) → kinds ++ cons_option o (taken_of types) ≡ (kinds ++ option_to_list o) ++ taken_of types
    of_kind None = ap (λ (ks : List ValueKind). ks ++ taken_of types) (sym (append-nil kinds))
    of_kind (Some k) = sym (append_assoc kinds (k ∷ []) (taken_of types))

abbrev signature_with : List ValueKind → Option FieldType → Signature
signature_with kinds r = record { takes = kinds; returned = r }

more_behind : (kinds : List ValueKind) (t : FieldType) (found : Option (List FieldType × List ℕ))
    → reading kinds (option_and_then behind (option_map (with_first t) found)) ≡ reading (kinds ++ option_to_list (kind t)) (option_and_then behind found)
more_behind kinds t None = refl
more_behind kinds t (Some (types, rest)) = in_result (return_type rest)
  where
    in_result : (o : Option (Option FieldType)) → reading kinds (option_map (λ r. record { parameters = t ∷ types; returned = r }) o)
        ≡ reading (kinds ++ option_to_list (kind t)) (option_map (λ r. record { parameters = types; returned = r }) o)
    in_result None = refl
    in_result (Some r) = ap (λ (ks : List ValueKind). Some (signature_with ks r)) (taken-first kinds t types)

pub passed : (kinds : List ValueKind) (bytes after more : List ℕ) (b : ℕ) (t : FieldType) (k : Option ValueKind) → bytes ≡ b ∷ after → (b ≡ 41 → ⊥)
    → field_type_at bytes ≡ Some (t, more) → k ≡ kind t → read_on kinds bytes ≡ read_on (kinds ++ option_to_list k) more
passed kinds bytes after more b t k at not e same =
    let less : length more ≤ length after = omega (arith, shorter bytes t more e, ap length at) in
    ap (λ (o : Option (List FieldType × List ℕ)). reading kinds (option_and_then behind o)) (step bytes after b at not ∙ ap (then_types (field_types_at (length after))) e)
    ∙ more_behind kinds t (field_types_at (length after) more)
    ∙ ap (λ (o : Option (List FieldType × List ℕ)). reading (kinds ++ option_to_list (kind t)) (option_and_then behind o)) (enough (length after) (length more) more less (omega arith))
    ∙ ap (λ (j : Option ValueKind). read_on (kinds ++ option_to_list j) more) (sym same)

pub nothing_left : (kinds : List ValueKind) (bytes : List ℕ) → length bytes ≡ 0 → read_on kinds bytes ≡ None
unfolding field_types_at
nothing_left kinds [] e = refl
nothing_left kinds (b ∷ bytes) e = absurd (omega arith)

-- The result alone is read without the kinds.
abbrev results : Option (List FieldType × List ℕ) → Option (Option FieldType)
results found = option_map (λ (m : MethodType). m.returned) (option_and_then behind found)

abbrev pub result_on : List ℕ → Option (Option FieldType)
result_on bytes = results (types_of bytes)

result_ends : (found : Option Returned) (after : List ℕ) → option_map result_of found ≡ return_type after
    → option_map result_of found ≡ results (Some ([], after))
result_ends None after e = rw (← e) refl
result_ends (Some r) after e = rw (← e) refl

pub result_closing : (found : Option Returned) (bytes after : List ℕ) (b : ℕ) → bytes ≡ b ∷ after → b ≡ 41
    → option_map result_of found ≡ return_type after → option_map result_of found ≡ result_on bytes
result_closing found bytes after b at is e =
    result_ends found after e
    ∙ sym (ap result_on (at ∙ ap (λ c. c ∷ after) is) ∙ ap results (types_end (length (41 ∷ after)) after))

pub no_result_there : (bytes after : List ℕ) (b : ℕ) → bytes ≡ b ∷ after → (b ≡ 41 → ⊥) → field_type_at bytes ≡ None → result_on bytes ≡ None
no_result_there bytes after b at not e = ap results (step bytes after b at not ∙ ap (then_types (field_types_at (length after))) e)

result_behind : (t : FieldType) (found : Option (List FieldType × List ℕ)) → results (option_map (with_first t) found) ≡ results found
result_behind t None = refl
result_behind t (Some (types, rest)) = in_result (return_type rest)
  where
    in_result : (o : Option (Option FieldType)) → option_map (λ (m : MethodType). m.returned) (option_map (λ r. record { parameters = t ∷ types; returned = r }) o)
        ≡ option_map (λ (m : MethodType). m.returned) (option_map (λ r. record { parameters = types; returned = r }) o)
    in_result None = refl
    in_result (Some r) = refl

pub result_passed : (bytes after more : List ℕ) (b : ℕ) (t : FieldType) → bytes ≡ b ∷ after → (b ≡ 41 → ⊥) → field_type_at bytes ≡ Some (t, more)
    → result_on bytes ≡ result_on more
result_passed bytes after more b t at not e =
    let less : length more ≤ length after = omega (arith, shorter bytes t more e, ap length at) in
    ap results (step bytes after b at not ∙ ap (then_types (field_types_at (length after))) e)
    ∙ result_behind t (field_types_at (length after) more)
    ∙ ap results (enough (length after) (length more) more less (omega arith))

pub no_result_left : (bytes : List ℕ) → length bytes ≡ 0 → result_on bytes ≡ None
unfolding field_types_at
no_result_left [] e = refl
no_result_left (b ∷ bytes) e = absurd (omega arith)
