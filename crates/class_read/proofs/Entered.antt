-- The names of the members that were read.
use Rattle.std.proofs.Common.{◌≡◌, true, ◌&&◌, List, [], ◌∷◌, refl}
use Rattle.std.specs.List.{list_any}
use Rattle.std.specs.Cmp.Lexicographic.{nat_list_eq_equiv}
use Rattle.class_model.specs.declared.constant_pool.Pool.{Pool}
use Rattle.class_model.specs.declared.class_file.Member.{Member}
use Rattle.class_model.specs.Shape.{name_text, descriptor_text, are_same}

-- A member is the same as an earlier one where an earlier one is the same as it.
pub same_back : (pool : Pool) (before : List Member) (m : Member) → list_any (are_same pool m) before ≡ list_any (λ earlier. true && are_same pool earlier m) before
same_back pool [] m = refl
same_back pool (n ∷ before) m =
    rw (nat_list_eq_equiv.symm (name_text pool m) (name_text pool n), nat_list_eq_equiv.symm (descriptor_text pool m) (descriptor_text pool n), same_back pool before m) refl
