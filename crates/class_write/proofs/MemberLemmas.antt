-- Members by their names and descriptors.
use Rattle.std.proofs.Common.{◌≡◌, ℕ, Bool, true, false, not, List, get_or, None, refl}
use Rattle.std.specs.Cmp.Lexicographic.{nat_list_eq_equiv}
use Rattle.std.proofs.lemmas.Bool.{and_parts}
use Rattle.class_model.specs.declared.constant_pool.Pool.{Pool}
use Rattle.class_model.specs.declared.class_file.Member.{Member}
use Rattle.class_model.specs.Shape.{name_text, descriptor_text, are_same}
use Rattle.class_model.specs.Attributes.{once_each}
use Rattle.const_pool.specs.declared.write_fault.Part.TheVariants as parts
use Rattle.class_write.specs.Misfits as misfits
use Rattle.class_write.specs.Order.{counted}
use Rattle.class_write.proofs.Faults.{none_parts, unless_none}
use Rattle.class_write.proofs.Lists.{by_told}
use Rattle.class_write.proofs.Once.{IsFair, not_true, once_all}

pub not_back : (a b : Bool) → a ≡ not b → b ≡ not a
not_back a true e = rw e refl
not_back a false e = rw e refl

pub fair : (pool : Pool) → IsFair (λ (m : Member). true) (are_same pool)
fair pool = record {
  back = λ m n. rw (nat_list_eq_equiv.symm (name_text pool m) (name_text pool n), nat_list_eq_equiv.symm (descriptor_text pool m) (descriptor_text pool n)) refl;
  both = λ m n e. refl;
}

single_field : (pool : Pool) (double : Bool) (n : ℕ) (m : Member) → misfits.field pool double n m ≡ None → double ≡ false
unfolding misfits.field
single_field pool double n m none =
    let behind = none_parts _ _ (none_parts _ _ none).1 in
    not_true double (and_parts _ (not double) (unless_none _ _ behind.0)).1

single_method : (pool : Pool) (double : Bool) (n : ℕ) (m : Member) → misfits.method pool double n m ≡ None → double ≡ false
unfolding misfits.method
single_method pool double n m none =
    let behind = none_parts _ _ (none_parts _ _ none).1 in
    not_true double (and_parts _ (not double) (unless_none _ _ behind.0)).1

pub single_fields : (pool : Pool) (members : List Member) → misfits.fields pool members ≡ None → once_each (λ m. true) (are_same pool) members ≡ true
single_fields pool members none = once_all (λ m. true) (are_same pool) _ _ members (fair pool) (λ n m fits. single_field pool (misfits.is_double pool members n m) n m fits) none

pub single_methods : (pool : Pool) (members : List Member) → misfits.methods pool members ≡ None → once_each (λ m. true) (are_same pool) members ≡ true
single_methods pool members none = once_all (λ m. true) (are_same pool) _ _ members (fair pool) (λ n m fits. single_method pool (misfits.is_double pool members n m) n m fits) none

-- what is told of members is said of them
pub fields_told : (pool : Pool) (members : List Member) (told : List Bool) → told ≡ misfits.doubles pool members
    → counted parts.Fields (λ n m. misfits.field pool (get_or told n false) n m) members ≡ misfits.fields pool members
fields_told pool members told is = by_told (misfits.is_double pool members) (misfits.field pool) parts.Fields members told is

pub methods_told : (pool : Pool) (members : List Member) (told : List Bool) → told ≡ misfits.doubles pool members
    → counted parts.Methods (λ n m. misfits.method pool (get_or told n false) n m) members ≡ misfits.methods pool members
methods_told pool members told is = by_told (misfits.is_double pool members) (misfits.method pool) parts.Methods members told is
