-- Trees with equal texts are equal, unless two files that differ have one digest.
use Rattle.std.proofs.Common.{◌≡◌, ℕ, suc, ◌^◌, ◌<◌, List, [], ◌∷◌, ◌++◌, length, sym, ◌∙◌, ap, refl, arith}
use Rattle.std.specs.List.{All, Contains}
use Rattle.std.specs.Fmt.{decimal}
use Rattle.std.proofs.lemmas.List.{append_assoc, length-append}
use Rattle.std.proofs.lemmas.List.Elements.{All-tail}
use Rattle.hex.specs.Hex.{encode_lower, lower_digits}
use Rattle.hex.proofs.HexLemmas.{length-encode_with}
use Rattle.sha2.specs.Sha256.{sha256}
use Rattle.sha2.proofs.Facts256.{length-sha256}
use Rattle.tree_value.specs.Nets.{net}
use Rattle.tree_value.specs.Paths.{IsPath}
use Rattle.tree_value.specs.Trees.{tree_text}
use Rattle.tree_value.proofs.NetLemmas.{net-parts, same_net}
use Rattle.tree_value.proofs.DigestLemmas.{IsDigest-sha256, same_hex}

tree_text-cons : (file : List ℕ × List ℕ) (files : List (List ℕ × List ℕ)) → tree_text (file ∷ files) ≡ net file.0 ++ (net (encode_lower (sha256 file.1)) ++ tree_text files)
unfolding tree_text
tree_text-cons file files = append_assoc (net file.0) (net (encode_lower (sha256 file.1))) (tree_text files)

tree_text-nil : length (tree_text []) ≡ 0
unfolding tree_text
tree_text-nil = refl

some_text : (file : List ℕ × List ℕ) (files : List (List ℕ × List ℕ)) → 0 < length (tree_text (file ∷ files))
some_text file files =
    let rest = net (encode_lower (sha256 file.1)) ++ tree_text files in
    let whole : length (tree_text (file ∷ files)) ≡ length (decimal (length file.0) ++ 58 ∷ (file.0 ++ 44 ∷ rest)) = ap length (tree_text-cons file files ∙ net-parts file.0 rest) in
    let parts = length-append (decimal (length file.0)) (58 ∷ (file.0 ++ 44 ∷ rest)) in
    omega (arith, whole, parts)

short_hex : (message : List ℕ) → length (encode_lower (sha256 message)) < 2 ^ 64
short_hex message =
    let twice = length-encode_with lower_digits (sha256 message) in
    let size = length-sha256 message in
    omega (arith, twice, size)

later : (file x : List ℕ × List ℕ) (files : List (List ℕ × List ℕ)) → Contains files x → Contains (file ∷ files) x
later file x files there = (suc there.0, (let below = there.1 in omega (arith, below)), there.2)

-- equal texts are of equal trees, where no two of their files differ and have one digest
pub same_tree : (a b : List (List ℕ × List ℕ)) → All (λ file. IsPath file.0) a → All (λ file. IsPath file.0) b → ((x y : List ℕ × List ℕ) → Contains a x → Contains b y → sha256 x.1 ≡ sha256 y.1 → x.1 ≡ y.1) → tree_text a ≡ tree_text b → a ≡ b
same_tree [] [] _ _ _ _ = refl
same_tree [] (g ∷ b) _ _ _ e = absurd (let some = some_text g b in let none = tree_text-nil in let lengths : length (tree_text []) ≡ length (tree_text (g ∷ b)) = ap length e in omega (arith, some, none, lengths))
same_tree (f ∷ a) [] _ _ _ e = absurd (let some = some_text f a in let none = tree_text-nil in let lengths : length (tree_text (f ∷ a)) ≡ length (tree_text []) = ap length e in omega (arith, some, none, lengths))
same_tree (f ∷ a) (g ∷ b) first second clean e =
    let path_f : IsPath f.0 = first 0 f (omega arith) in
    let path_g : IsPath g.0 = second 0 g (omega arith) in
    let paths = same_net f.0 g.0 (net (encode_lower (sha256 f.1)) ++ tree_text a) (net (encode_lower (sha256 g.1)) ++ tree_text b)
    (let within = path_f.within in omega (arith, within)) (let within = path_g.within in omega (arith, within)) (sym (tree_text-cons f a) ∙ e ∙ tree_text-cons g b) in
    let digests = same_net (encode_lower (sha256 f.1)) (encode_lower (sha256 g.1)) (tree_text a) (tree_text b) (short_hex f.1) (short_hex g.1) paths.1 in
    let bytes : f.1 ≡ g.1 = clean f g (0, (omega arith), refl) (0, (omega arith), refl) (same_hex (sha256 f.1) (sha256 g.1) (IsDigest-sha256 f.1) (IsDigest-sha256 g.1) digests.0) in
    let rest = same_tree a b (All-tail (λ file. IsPath file.0) f a first) (All-tail (λ file. IsPath file.0) g b second) (λ x y in_a in_b. clean x y (later f x a in_a) (later g y b in_b)) digests.1 in
    (λ i. (paths.0 i, bytes i) ∷ rest i)
