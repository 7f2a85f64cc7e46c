-- Rows of the table of external classes.
use Rattle.std.proofs.Common.{◌≡◌, ℕ, zero, suc, ◌+◌, ◌≤◌, false, List, [], ◌∷◌, ◌++◌, length, map, take, Option, Some, None, option_map, slice_get, refl, sym, ap, add-one}
use Rattle.std.specs.Option.{option_to_list}
use Rattle.std.proofs.lemmas.List.{take_all}
use Rattle.std.proofs.lemmas.Option.{slice_get_past}
use Rattle.jvm_tables.specs.declared.externals.ExternalRow.{ExternalRow}
use Rattle.jvm_tables.specs.Externals.{External, externals, said}
use Rattle.class_index.specs.declared.outline.Outline.{Outline}
use Rattle.class_index.specs.Outlines.{outer_outline}
use Rattle.class_index.specs.Hierarchy.{all_of}
use Rattle.class_index.specs.Supers.{is_extensible}

pub count : length externals ≡ 61
unfolding externals
count = refl

pub none_past : (row : ℕ) → 61 ≤ row → is_extensible (slice_get externals row) ≡ false
none_past row h = ap is_extensible (slice_get_past externals row (rw count h))

pub told : (found : ExternalRow) (at : ℕ) (row : Option External) → Some (said found) ≡ option_map (λ r. (at, r)) row → found.is_extensible ≡ is_extensible row
told found at None e = cc
told found at (Some row) e = let same : said found ≡ (at, row) = cc in ap (λ p. p.1.is_extensible) same

map_suc : (f : External → Outline) (xs : List External) (i : ℕ) → map f (take (suc i) xs) ≡ map f (take i xs) ++ option_to_list (option_map f (slice_get xs i))
map_suc f [] zero = refl
map_suc f [] (suc i) = refl
map_suc f (x ∷ xs) zero = refl
map_suc f (x ∷ xs) (suc i) = ap (λ ys. f x ∷ ys) (map_suc f xs i)

-- one more row
pub row_more : (row : ℕ) → map outer_outline (take (row + 1) externals) ≡ map outer_outline (take row externals) ++ option_to_list (option_map outer_outline (slice_get externals row))
row_more row = rw (add-one row) (map_suc outer_outline externals row)

pub all_rows : (classes : List Outline) (n : ℕ) → 61 ≤ n → classes ++ map outer_outline (take n externals) ≡ all_of classes
unfolding all_of
all_rows classes n h = ap (λ rows. classes ++ map outer_outline rows) (take_all n externals (rw count h))

-- what a row in memory says
pub said_row : (row : ExternalRow) (at : ℕ) (o : Option External) → Some (said row) ≡ option_map (λ r. (at, r)) o → option_map outer_outline o ≡ Some (outer_outline (said row).1)
said_row row at None e = cc
said_row row at (Some r) e = let same : said row ≡ (at, r) = cc in ap (λ p. Some (outer_outline p.1)) (sym same)
