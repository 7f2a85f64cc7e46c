-- The bytes of a digest, and its text in hexadecimal.
use Rattle.std.proofs.Common.{◌≡◌, ℕ, zero, suc, ◌/◌, ◌^◌, ◌<◌, inl, inr, List, [], length, slice_index, sym, ◌∙◌, ap, arith}
use Rattle.std.specs.Int.{w32, to_be_bytes, byte_at, bytes_high_first}
use Rattle.std.specs.List.{All}
use Rattle.std.proofs.Math.Nat.{mod-lt}
use Rattle.std.proofs.Math.ListN.{get_or-eq_default}
use Rattle.std.proofs.lemmas.Bool.{cases_lt}
use Rattle.std.proofs.lemmas.List.Elements.{All-nil, All-cons, All-append}
use Rattle.std.specs.Result.{result_unwrap_or}
use Rattle.hex.specs.Hex.{IsBytes, encode_lower, decode_of}
use Rattle.hex.proofs.HexLemmas.{decode_of-encode_lower}
use Rattle.sha2.specs.Sha256.{sha256, digest_bytes}
use Rattle.sha2.proofs.Facts256.{length-sha256}
use Rattle.tree_value.specs.Digests.{IsDigest}

byte_at-below : (k n : ℕ) → byte_at k n < 256
byte_at-below zero n = mod-lt n {m = 256} (omega arith)
byte_at-below (suc k) n = mod-lt (n / 256 ^ suc k) {m = 256} (omega arith)

bytes_high_first-below : (k n : ℕ) → All (λ b. b < 256) (bytes_high_first k n)
bytes_high_first-below zero n = All-nil (λ b. b < 256)
bytes_high_first-below (suc k) n = All-cons (λ b. b < 256) (byte_at k n) (bytes_high_first k n) (byte_at-below k n) (bytes_high_first-below k n)

digest_bytes-below : (h : List ℕ) (n : ℕ) → All (λ b. b < 256) (digest_bytes h n)
unfolding digest_bytes
digest_bytes-below h zero = All-nil (λ b. b < 256)
digest_bytes-below h (suc n) = All-append (λ b. b < 256) (digest_bytes h n) (to_be_bytes w32 (slice_index h n)) (digest_bytes-below h n) (bytes_high_first-below 4 (slice_index h n))

below_256 : (message : List ℕ) → All (λ b. b < 256) (sha256 message)
unfolding sha256
below_256 message = digest_bytes-below _ 8

-- what SHA-256 gives is a digest
pub IsDigest-sha256 : (message : List ℕ) → IsDigest (sha256 message)
IsDigest-sha256 message = record { size = length-sha256 message; within = below_256 message }

IsBytes-from_IsDigest : (bytes : List ℕ) → IsDigest bytes → IsBytes bytes
IsBytes-from_IsDigest bytes digest k = elim (cases_lt k (length bytes)) as (λ _. slice_index bytes k < 256) [
  | inl below ↦ digest.within k 0 below
  | inr past ↦ let none : slice_index bytes k ≡ 0 = get_or-eq_default bytes 0 past in omega (arith, none)
]

-- a digest is read back from its text in hexadecimal
pub same_hex : (a b : List ℕ) → IsDigest a → IsDigest b → encode_lower a ≡ encode_lower b → a ≡ b
same_hex a b first second e =
    ap (λ r. result_unwrap_or r []) (sym (decode_of-encode_lower a (IsBytes-from_IsDigest a first)) ∙ ap decode_of e ∙ decode_of-encode_lower b (IsBytes-from_IsDigest b second))
