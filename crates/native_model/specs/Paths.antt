-- Paths as natives read them: the grammar of trees, as a test.
use Rattle.std.specs.Prelude.{ℕ, ◌==◌, nat_le, nat_lt, Bool, not, ◌&&◌, ◌||◌, List, [], ◌∷◌, ◌++◌, length, codes, bytes_eq, Option, Some, None, option_and_then, if◌then◌else◌}
use Rattle.std.specs.List.{list_all, list_any}
use Rattle.std.specs.Str.{byte, is_utf8}
use Rattle.tree_value.specs.Paths.{segments}
use Rattle.native_model.specs.Texts.{text_of_units}

abbrev pub is_segment : List ℕ → Bool
is_segment bytes =
    nat_lt 0 (length bytes) && nat_le (length bytes) 200 && is_utf8 bytes && not (list_any (λ b. b == 0) bytes)
    && not (bytes_eq bytes (codes ".")) && not (bytes_eq bytes (codes ".."))

abbrev pub is_path : List ℕ → Bool
is_path bytes = nat_le (length bytes) 1024 && (length bytes == 0 || list_all is_segment (segments bytes))

abbrev pub if_path : List ℕ → Option (List ℕ)
if_path bytes = if is_path bytes then Some bytes else None

-- the path that units spell
unfoldable pub path_of_units : List ℕ → Option (List ℕ)
path_of_units units = option_and_then if_path (text_of_units units)

abbrev pub joined : List ℕ → List ℕ → List ℕ
joined path [] = path
joined [] sub = sub
joined path sub = path ++ byte "/" ∷ sub
