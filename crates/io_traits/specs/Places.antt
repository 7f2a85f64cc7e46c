-- Where a name stands among files in order, or would stand.
use Rattle.std.specs.Prelude.{◌≡◌, ℕ, ◌<◌, ◌≤◌, List, length, slice_index_or}
use Rattle.std.specs.declared.cmp.Ordering.TheVariants.{Less, Greater}
use Rattle.io_traits.specs.Files.{File, Files}
use Rattle.tree_value.specs.Trees.{path_cmp}

-- the file at place i has the name, the names before it are less and those behind it greater
pub record IsAt (files : Files) (name : List ℕ) (i : ℕ) : Type 0 where
  pub in_range : i < length files
  pub has_name : (d : File) → (slice_index_or files i d).0 ≡ name
  pub before : (j : ℕ) (d : File) → j < i → path_cmp (slice_index_or files j d).0 name ≡ Less
  pub behind : (j : ℕ) (d : File) → i < j → j < length files → path_cmp (slice_index_or files j d).0 name ≡ Greater

-- the name would stand at place i: the names before it are less, and those from there on greater
pub record IsGap (files : Files) (name : List ℕ) (i : ℕ) : Type 0 where
  pub in_range : i ≤ length files
  pub before : (j : ℕ) (d : File) → j < i → path_cmp (slice_index_or files j d).0 name ≡ Less
  pub behind : (j : ℕ) (d : File) → i ≤ j → j < length files → path_cmp (slice_index_or files j d).0 name ≡ Greater
