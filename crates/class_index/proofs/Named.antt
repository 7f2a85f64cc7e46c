-- The names in the table of external classes are names.
use Rattle.std.proofs.Common.{◌≡◌, ℕ, zero, suc, ◌<◌, ◌&&◌, Bool, true, List, [], ◌∷◌, ◌++◌, length, Option, Some, None, slice_get, refl, sym, ◌∙◌, ap, subst, arith}
use Rattle.std.specs.Prelude.{nat_lt, IfSome, option_map}
use Rattle.std.specs.List.{All, AllByRecursion, flat_map}
use Rattle.std.proofs.lemmas.Bool.{and_parts, ltb-true}
use Rattle.std.proofs.lemmas.List.Elements.{All-nil, All-cons}
use Rattle.class_model.specs.ModifiedUtf8.{unit, IsName}
use Rattle.class_model.proofs.UnitLemmas.{one}
use Rattle.jvm_tables.specs.declared.externals.ExternalRow.{ExternalRow}
use Rattle.jvm_tables.specs.Externals.{External, externals, said}
use Rattle.class_index.specs.Outlines.{HasNames}
use Rattle.class_index.proofs.Listings.{mapped}

-- bytes that spell themselves
abbrev are_plain : List ℕ → Bool
are_plain [] = true
are_plain (b ∷ bytes) = nat_lt 0 b && nat_lt b 128 && are_plain bytes

abbrev is_plain_name : List ℕ → Bool
is_plain_name bytes = nat_lt 0 (length bytes) && nat_lt (length bytes) 65536 && are_plain bytes

spelled : (bytes : List ℕ) → are_plain bytes ≡ true → bytes ≡ flat_map unit bytes
spelled [] t = refl
spelled (b ∷ bytes) t =
    let all = and_parts (nat_lt 0 b && nat_lt b 128) (are_plain bytes) t in
    let byte = and_parts (nat_lt 0 b) (nat_lt b 128) all.0 in
    ap (λ (xs : List ℕ). b ∷ xs) (spelled bytes all.1) ∙ ap (λ (xs : List ℕ). xs ++ flat_map unit bytes) (sym (one b (ltb-true 0 b byte.0) (ltb-true b 128 byte.1)))

fit : (bytes : List ℕ) → are_plain bytes ≡ true → AllByRecursion (λ u. u < 65536) bytes
fit [] t = tt
fit (b ∷ bytes) t =
    let all = and_parts (nat_lt 0 b && nat_lt b 128) (are_plain bytes) t in
    let byte = and_parts (nat_lt 0 b) (nat_lt b 128) all.0 in
    let below : b < 128 = ltb-true b 128 byte.1 in
    (omega arith, fit bytes all.1)

name_is : (bytes : List ℕ) → is_plain_name bytes ≡ true → IsName bytes
name_is bytes t =
    let all = and_parts (nat_lt 0 (length bytes) && nat_lt (length bytes) 65536) (are_plain bytes) t in
    let sizes = and_parts (nat_lt 0 (length bytes)) (nat_lt (length bytes) 65536) all.0 in
    let some : 0 < length bytes = ltb-true 0 (length bytes) sizes.0 in
    let short : length bytes < 65536 = ltb-true (length bytes) 65536 sizes.1 in
    record { some = some; short = omega arith; text = (bytes, record { fit = fit bytes all.1; spelled = spelled bytes all.1 }) }

abbrev is_named_super : Option (List ℕ) → Bool
is_named_super None = true
is_named_super (Some name) = is_plain_name name

abbrev are_named : List (List ℕ) → Bool
are_named [] = true
are_named (name ∷ names) = is_plain_name name && are_named names

abbrev is_named_row : External → Bool
is_named_row row = is_plain_name row.class && is_named_super row.super_class && are_named row.interfaces

abbrev all_named : List External → Bool
all_named [] = true
all_named (row ∷ rows) = is_named_row row && all_named rows

externals_are_named : all_named externals ≡ true
unfolding externals
externals_are_named = refl

super_is : (super_class : Option (List ℕ)) → is_named_super super_class ≡ true → IfSome super_class IsName
super_is None t = tt
super_is (Some name) t = name_is name t

interfaces_are : (names : List (List ℕ)) → are_named names ≡ true → All IsName names
interfaces_are [] t = All-nil IsName
interfaces_are (name ∷ names) t =
    let all = and_parts (is_plain_name name) (are_named names) t in All-cons IsName name names (name_is name all.0) (interfaces_are names all.1)

row_has : (row : External) → is_named_row row ≡ true → HasNames row
row_has row t =
    let all = and_parts (is_plain_name row.class && is_named_super row.super_class) (are_named row.interfaces) t in
    let front = and_parts (is_plain_name row.class) (is_named_super row.super_class) all.0 in
    record { class = name_is row.class front.0; super_class = super_is row.super_class front.1; interfaces = interfaces_are row.interfaces all.1 }

named_at : (rows : List External) (at : ℕ) (row : External) → all_named rows ≡ true → slice_get rows at ≡ Some row → HasNames row
named_at [] at row t e = cc
named_at (r ∷ rows) zero row t e =
    let same : r ≡ row = cc in subst HasNames same (row_has r (and_parts (is_named_row r) (all_named rows) t).0)
named_at (r ∷ rows) (suc at) row t e = named_at rows at row (and_parts (is_named_row r) (all_named rows) t).1 e

-- a row of the table has names
pub found_has : (found : ExternalRow) (at : ℕ) → Some (said found) ≡ option_map (λ r. (at, r)) (slice_get externals at) → HasNames (said found).1
found_has found at e =
    let row = mapped (λ (r : External). (at, r)) (slice_get externals at) (said found) (sym e) in
    subst (λ (p : ℕ × External). HasNames p.1) row.2 (named_at externals at row.0 externals_are_named row.1)
