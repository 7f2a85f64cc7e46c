-- Sets of the names and descriptors of members, by the numbers of their texts.
use Rattle.std.specs.Prelude.{◌≡◌, ℕ, Bool, false, ◌&&◌, ◌==◌, List, All, Some}
use Rattle.std.specs.Option.{option_map_or}
use Rattle.std.specs.List.{list_any}
use Rattle.std.specs.BTreeSet.{contains}
use Rattle.std.specs.Ordering.{nat_cmp, ordering_then}
use Rattle.std.specs.declared.cmp.Ordering.{Ordering}
use Rattle.class_model.specs.declared.constant_pool.Pool.{Pool}
use Rattle.class_model.specs.declared.class_file.Member.{Member}
use Rattle.class_model.specs.Shape.{name_text, descriptor_text}
use Rattle.const_pool.specs.declared.text_numbers.TextNumbers.{TextNumbers}
use Rattle.const_pool.specs.declared.member_keys.MemberKeys.{MemberKeys}
use Rattle.const_pool.specs.TextNumbers.{number_in, AreNumbersOf}

-- the numbers of a name and of a descriptor
abbrev pub Key : Type 0
Key = ℕ × ℕ

abbrev pub key_cmp : Key → Key → Ordering
key_cmp x y = ordering_then (nat_cmp x.0 y.0) (nat_cmp x.1 y.1)

abbrev pub has_number : TextNumbers → List ℕ → ℕ → Bool
has_number numbers text number = option_map_or (λ n. n == number) (number_in numbers text) false

abbrev pub is_key_of : Pool → TextNumbers → Key → Member → Bool
is_key_of pool numbers key m =
    has_number numbers (name_text pool m) key.0 && has_number numbers (descriptor_text pool m) key.1

-- The texts of a member have numbers.
pub record IsNumbered (pool : Pool) (numbers : TextNumbers) (m : Member) : Type 0 where
  pub name : (number : ℕ) × (number_in numbers (name_text pool m) ≡ Some number)
  pub descriptor : (number : ℕ) × (number_in numbers (descriptor_text pool m) ≡ Some number)

-- The keys are those of these members.
pub record HasSeen (pool : Pool) (members : List Member) (keys : MemberKeys) : Type 0 where
  pub numbers : AreNumbersOf pool keys.numbers
  pub numbered : All (IsNumbered pool keys.numbers) members
  pub seen : (key : Key) → contains key_cmp keys.seen key ≡ list_any (is_key_of pool keys.numbers key) members
