-- Paths of files in a tree.
use Rattle.std.specs.Prelude.{◌≡◌, ◌≢◌, ℕ, ◌<◌, ◌≤◌, ◌==◌, ◌⊎◌, List, [], length, codes, All, Contains, IsUtf8}
use Rattle.std.specs.List.{slice_split}
use Rattle.std.specs.Str.{byte}

-- one step of a path: 1 to 200 bytes of UTF-8 (RFC 3629) without NUL, and neither "." nor ".."
pub record IsSegment (bytes : List ℕ) : Type 0 where
  pub some : 0 < length bytes
  pub within : length bytes ≤ 200
  pub text : IsUtf8 bytes
  pub no_nul : ¬ (Contains bytes 0)
  pub not_here : bytes ≢ codes "."
  pub not_above : bytes ≢ codes ".."

-- the parts between the slashes
abbrev pub segments : List ℕ → List (List ℕ)
segments bytes = slice_split (λ b. b == byte "/") bytes

-- the empty path, which stands for a whole tree, or segments joined by slashes, of at most 1,024 bytes together
pub record IsPath (bytes : List ℕ) : Type 0 where
  pub within : length bytes ≤ 1024
  pub steps : (bytes ≡ []) ⊎ All IsSegment (segments bytes)
