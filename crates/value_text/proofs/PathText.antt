-- A path is UTF-8.
use Rattle.std.proofs.Common.{ℕ, suc, List, [], ◌∷◌, All, IsUtf8, inl, inr, sym, subst, arith}
use Rattle.std.proofs.lemmas.Str.{IsUtf8-append, IsUtf8-nil, IsUtf8-encode, encode_ascii}
use Rattle.std.specs.List.{join_with_byte}
use Rattle.std.proofs.lemmas.List.Splits.{join_with_byte-slice_split}
use Rattle.tree_value.specs.Paths.{IsSegment, IsPath, segments}
use lib.Utf8.{low_scalar}

slash : (x : List ℕ) → IsUtf8 x → IsUtf8 (47 ∷ x)
slash x h = IsUtf8-append (47 ∷ []) x (subst IsUtf8 (encode_ascii 47 (omega arith)) (IsUtf8-encode 47 (low_scalar 47 (omega arith)))) h

IsUtf8-join : (parts : List (List ℕ)) → All IsSegment parts → IsUtf8 (join_with_byte 47 parts)
IsUtf8-join [] h = IsUtf8-nil
IsUtf8-join (x ∷ []) h = (h 0 [] (omega arith)).text
IsUtf8-join (x ∷ y ∷ parts) h =
    IsUtf8-append x _ (h 0 [] (omega arith)).text (slash _ (IsUtf8-join (y ∷ parts) (λ k d within. h (suc k) d (omega arith))))

pub IsUtf8-IsPath : (bytes : List ℕ) → IsPath bytes → IsUtf8 bytes
IsUtf8-IsPath bytes h = elim h.steps [
  | inl none ↦ subst IsUtf8 (sym none) IsUtf8-nil
  | inr all ↦ subst IsUtf8 (join_with_byte-slice_split 47 bytes) (IsUtf8-join (segments bytes) all)
]
