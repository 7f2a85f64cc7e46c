-- A letter is a text, and the name of a task.
use Rattle.std.proofs.Common.{◌≡◌, ℕ, zero, suc, ◌<◌, ◌≤◌, ◌==◌, ◌||◌, Bool, true, false, List, [], ◌∷◌, length, slice_index, All, IsTrue, IsAscii, IsUtf8, refl, sym, ap, subst, ◌∙◌, arith}
use Rattle.std.specs.Char.{is_ascii_alphabetic}
use Rattle.std.specs.List.{AllByRecursion, slice_split}
use Rattle.std.specs.Str.{byte}
use Rattle.std.proofs.lemmas.Bool.{eqb-true}
use Rattle.std.proofs.lemmas.Str.{IsUtf8-from_ascii}
use Rattle.std.proofs.lemmas.List.Elements.{All-from_recursion}
use Rattle.out_store.specs.Names.{is_word_byte, IsTaskPart, IsTaskName}

letter_ascii : (t : ℕ) → t ≤ 122 → IsAscii (t ∷ [])
letter_ascii t high zero = omega arith
letter_ascii t high (suc i) = omega arith

pub letter_text : (t : ℕ) → 97 ≤ t → t ≤ 122 → IsUtf8 (t ∷ [])
letter_text t low high = IsUtf8-from_ascii (t ∷ []) (letter_ascii t high)

not_dot : (t : ℕ) (b : Bool) → 97 ≤ t → (t == 46) ≡ b → b ≡ false
not_dot t true low is = let same = eqb-true t 46 is in absurd (omega arith)
not_dot t false low is = refl

-- the name of a task of one letter
pub letter_task : (t : ℕ) → 97 ≤ t → t ≤ 122 → IsTaskName (t ∷ [])
letter_task t low high =
    let alphabetic : IsTrue (is_ascii_alphabetic t) = grind arith in
    let word : IsTrue (is_word_byte t) = grind arith in
    let part : IsTaskPart (t ∷ []) = record {
      some = omega arith;
      within = omega arith;
      letter = alphabetic;
      words = All-from_recursion (λ b. IsTrue (is_word_byte b)) (t ∷ []) (word, tt);
    } in
    let whole : slice_split (λ b. b == 46) (t ∷ []) ≡ (t ∷ []) ∷ [] = rw (not_dot t (t == 46) low refl) refl in
    record {
      within = omega arith;
      parts = subst (All IsTaskPart) (sym whole) (All-from_recursion IsTaskPart ((t ∷ []) ∷ []) (part, tt));
    }
