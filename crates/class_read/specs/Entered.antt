-- The names of the members that were read.
use Rattle.std.specs.Prelude.{◌≡◌, ℕ, List, [], ◌∷◌, ◌++◌}
use Rattle.class_model.specs.declared.constant_pool.Pool.{Pool}
use Rattle.class_model.specs.declared.class_file.Member.{Member}
use Rattle.const_pool.specs.declared.member_keys.MemberKeys.{MemberKeys}
use Rattle.const_pool.specs.SeenMembers.{HasSeen}

-- Beside those of members the keys have that of a further one, of this name and this descriptor.
abbrev pub IsEntered : Pool → ℕ → ℕ → List Member → MemberKeys → Type 0
IsEntered pool name descriptor before keys =
    (m : Member) → m.name ≡ name → m.descriptor ≡ descriptor → HasSeen pool (before ++ m ∷ []) keys
