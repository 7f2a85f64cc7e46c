-- Readers from their parts: numbers, indices, lists, and runs of a given length. One part after another is `>>=`.
use Rattle.std.specs.Prelude.{ℕ, zero, suc, Bool, ◌==◌, nat_lt, List, [], ◌∷◌, ◌++◌, length, take, drop, Ok, Err, if◌then◌else◌}
use Rattle.std.specs.Int.{w16, w32}
use Rattle.class_text.specs.Reading.{cut_short, astray, bad_attribute, cut_within, goes_on, fault_place, is_cut, Reading, ◌>>=◌, place, number_at, or_cut}

-- what stands at the front of bytes that go on to an end
abbrev pub Reader : Type 0 → Type 0
Reader A = ℕ → List ℕ → Reading A

-- A number that is cut is named by its own place.
unfoldable pub u1_at : Reader ℕ
u1_at end [] = Err (cut_short (place end []))
u1_at end (byte ∷ bytes) = Ok (byte, bytes)

unfoldable pub u2_at : Reader ℕ
u2_at end bytes = or_cut (place end bytes) (number_at w16 bytes)

unfoldable pub u4_at : Reader ℕ
u4_at end bytes = or_cut (place end bytes) (number_at w32 bytes)

-- an index that leads where it may
unfoldable pub index_at : (ℕ → Bool) → Reader ℕ
index_at leads end bytes =
    u2_at end bytes >>= (λ n. if leads n.0 then Ok n else Err (astray (place end bytes) leads))

-- so many items, each of which is read knowing those before it
unfoldable pub many_after : {A : Type 0} → (List A → Reader A) → List A → ℕ → Reader (List A)
many_after one before zero end bytes = Ok ([], bytes)
many_after one before (suc more) end bytes =
    one before end bytes
    >>= (λ first. many_after one (before ++ first.0 ∷ []) more end first.1 >>= (λ others. Ok (first.0 ∷ others.0, others.1)))

-- so many items, each by itself
abbrev pub many_at : {A : Type 0} → Reader A → ℕ → Reader (List A)
many_at one = many_after (λ before. one) []

-- items behind their count
unfoldable pub counted_after : {A : Type 0} → (List A → Reader A) → Reader (List A)
counted_after one end bytes = u2_at end bytes >>= (λ count. many_after one [] count.0 end count.1)

abbrev pub counted_at : {A : Type 0} → Reader A → Reader (List A)
counted_at one = counted_after (λ before. one)

-- a run of so many bytes
unfoldable pub run_at : ℕ → Reader (List ℕ)
run_at len end bytes =
    if nat_lt (length bytes) len then Err (cut_short (place end bytes)) else Ok (take len bytes, drop len bytes)

-- What was read of the content of an attribute, which ends at a stop, is all of it. Where it isn't, or the content is
-- cut, the attribute is bad.
unfoldable pub whole : {A : Type 0} → ℕ → ℕ → List ℕ → Reading A → Reading A
whole at stop rest (Ok found) =
    if length found.1 == 0 then Ok (found.0, rest) else Err (bad_attribute at (goes_on (place stop found.1) stop))
whole at stop rest (Err fault) = Err (if is_cut fault then bad_attribute at (cut_within (fault_place fault) stop) else fault)

-- The content of an attribute at a place is taken whole before it is looked at.
unfoldable pub within : {A : Type 0} → ℕ → ℕ → Reader A → Reader A
within at len inner end bytes =
    run_at len end bytes >>= (λ run. whole at (place end run.1) run.1 (inner (place end run.1) run.0))
