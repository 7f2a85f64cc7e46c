-- Numbers of texts, equal where the texts are.
use Rattle.std.specs.Prelude.{◌≡◌, ℕ, List, Option, Some}
use Rattle.std.specs.BTreeMap.{BTreeMap, get, get_by}
use Rattle.std.specs.Cmp.Lexicographic.{slice_cmp}
use Rattle.std.specs.Ordering.{nat_cmp}
use denote.Ref.{Bor}
use Rattle.class_model.specs.declared.constant_pool.Pool.{Pool}
use Rattle.class_text.specs.Attributes.{text_or_empty}
use Rattle.const_pool.specs.declared.text_numbers.TextNumbers.{TextNumbers}

-- the number of a text
abbrev pub number_by : BTreeMap (Bor (List ℕ)) ℕ → List ℕ → Option ℕ
number_by numbers text = get_by (λ key. slice_cmp nat_cmp text key.now) numbers

abbrev pub number_in : TextNumbers → List ℕ → Option ℕ
number_in numbers text = number_by numbers.by_text text

-- Each number is that of a constant with the text, and constants have the numbers of their texts.
pub record AreNumbersOf (pool : Pool) (numbers : TextNumbers) : Type 0 where
  pub texts : (text : List ℕ) (number : ℕ) → number_in numbers text ≡ Some number → text_or_empty pool number ≡ text
  pub constants : (constant number : ℕ) → get nat_cmp numbers.by_constant constant ≡ Some number → number_in numbers (text_or_empty pool constant) ≡ Some number

-- The texts of before keep their numbers.
pub record Grows (pool : Pool) (old new : TextNumbers) : Type 0 where
  pub numbers : AreNumbersOf pool new
  pub kept : (text : List ℕ) (number : ℕ) → number_in old text ≡ Some number → number_in new text ≡ Some number
