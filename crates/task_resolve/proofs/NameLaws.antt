-- A segment of a task's name is a text.
use Rattle.std.proofs.Common.{◌≡◌, ℕ, zero, suc, ◌<◌, true, List, [], ◌∷◌, IsTrue, IsUtf8, arith, ◌&&◌, refl}
use Rattle.std.specs.List.{list_all}
use Rattle.std.specs.Str.{IsAscii}
use Rattle.std.proofs.lemmas.Bool.Decides.{nat_tests}
use Rattle.std.proofs.lemmas.Str.{IsUtf8-from_ascii}
use Rattle.task_model.specs.TaskNames.{is_letter, may_follow, is_name_segment}

low : (b : ℕ) → may_follow b ≡ true → b < 128
low b h = grind (arith, nat_tests)

letter_low : (b : ℕ) → is_letter b ≡ true → b < 128
letter_low b h = grind (arith, nat_tests)

front : (p q : _) → (p && q) ≡ true → p ≡ true
front p q h = grind arith

behind : (p q : _) → (p && q) ≡ true → q ≡ true
behind p q h = grind arith

ascii : (bs : List ℕ) → list_all may_follow bs ≡ true → IsAscii bs
ascii [] h i = omega arith
ascii (b ∷ bs) h zero = low b (front _ _ h)
ascii (b ∷ bs) h (suc i) = ascii bs (behind _ _ h) i

name_ascii : (bs : List ℕ) → is_name_segment bs ≡ true → IsAscii bs
unfolding is_name_segment
name_ascii [] h i = omega arith
name_ascii (b ∷ bs) h zero = letter_low b (front _ _ (front _ _ h))
name_ascii (b ∷ bs) h (suc i) = ascii bs (behind _ _ (front _ _ h)) i

pub name_text : (bs : List ℕ) → is_name_segment bs ≡ true → IsUtf8 bs
name_text bs h = IsUtf8-from_ascii bs (name_ascii bs h)
