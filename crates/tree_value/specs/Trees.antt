-- Trees of files.
use Rattle.std.specs.Prelude.{◌≡◌, ◌≢◌, ℕ, ◌+◌, ◌-◌, ◌<◌, ◌≤◌, ◌==◌, nat_eq, if◌then◌else◌, List, [], ◌∷◌, ◌++◌, length, drop, slice_index_or, All, IsTrue, Option, Some, None, option_map, filter_map, flat_map}
use Rattle.std.specs.List.{starts_with}
use Rattle.std.specs.Str.{byte}
use Rattle.std.specs.Ordering.{nat_cmp}
use Rattle.std.specs.declared.cmp.Ordering.{Ordering}
use Rattle.std.specs.declared.cmp.Ordering.TheVariants.{Less}
use Rattle.std.specs.Cmp.Lexicographic.{slice_cmp}
use Rattle.std.specs.FinMap.Entries.{is_sorted}
use Rattle.hex.specs.Hex.{encode_lower}
use Rattle.sha2.specs.Sha256.{sha256}
use Rattle.tree_value.specs.Paths.{IsPath}
use Rattle.tree_value.specs.Nets.{net}

-- the order of paths and texts: that of their bytes
abbrev pub path_cmp : List ℕ → List ℕ → Ordering
path_cmp = slice_cmp nat_cmp

-- a tree: pairs of a path and the bytes of its file, by rising paths
pub record IsTree (files : List (List ℕ × List ℕ)) : Type 0 where
  pub paths : All (λ file. IsPath file.0) files
  pub rising : IsTrue (is_sorted path_cmp files)

-- the path of the file at place k, from 0
abbrev pub path_at : List (List ℕ × List ℕ) → ℕ → List ℕ
path_at files k = (slice_index_or files k ([], [])).0

-- file n, from 1, is the first whose path isn't greater than the one before
pub record IsFirstOutOfOrder (files : List (List ℕ × List ℕ)) (n : ℕ) : Type 0 where
  pub within : (1 < n) × (n ≤ length files)
  pub before : (k : ℕ) → k + 2 < n → path_cmp (path_at files k) (path_at files (k + 1)) ≡ Less
  pub here : path_cmp (path_at files (n - 2)) (path_at files (n - 1)) ≢ Less

-- what follows a prefix of a path, if it is whole segments: nothing, or a slash and more
abbrev pub after_slash : List ℕ → Option (List ℕ)
after_slash [] = Some []
after_slash (c ∷ rest) = if c == byte "/" then Some rest else None

-- a path below `top` as seen from there: all of it below the empty path, nothing at `top` itself
abbrev pub path_below : List ℕ → List ℕ → Option (List ℕ)
path_below top path =
    if length top == 0 then Some path
    else if starts_with nat_eq path top then after_slash (drop (length top) path)
    else None

-- the files below `top`, and one at `top` under the empty path
abbrev pub files_below : List ℕ → List (List ℕ × List ℕ) → List (List ℕ × List ℕ)
files_below top files = filter_map (λ file. option_map (λ rest. (rest, file.1)) (path_below top file.0)) files

-- a tree as a text: for each file its path and the SHA-256 of its bytes in hexadecimal
unfoldable pub tree_text : List (List ℕ × List ℕ) → List ℕ
tree_text files = flat_map (λ file. net file.0 ++ net (encode_lower (sha256 file.1))) files

-- the digest of a tree
unfoldable pub tree_digest : List (List ℕ × List ℕ) → List ℕ
tree_digest files = sha256 (tree_text files)
