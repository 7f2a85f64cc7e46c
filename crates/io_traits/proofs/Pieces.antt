-- What a read takes from the front of what is left.
use Rattle.std.proofs.Common.{◌≡◌, ℕ, ◌+◌, ◌≤◌, List, ◌++◌, length, take, drop, arith}
use Rattle.std.proofs.lemmas.Grind.{common_steps}
use Rattle.std.proofs.lemmas.List.{take-append-drop, take-append-le, drop-drop}

-- n bytes copied over the front of a slice, and what stands behind them, are what was left
pub piece_read : (bytes into left front : List ℕ) (at n : ℕ) → left ≡ drop at bytes → front ≡ take n left → n ≤ length left → drop at bytes ≡ take n (front ++ drop n into) ++ drop (at + n) bytes
piece_read bytes into left front at n is_left is_front within = grind (arith, common_steps, take-append-drop n (drop at bytes), take-append-le n front (drop n into), drop-drop)
