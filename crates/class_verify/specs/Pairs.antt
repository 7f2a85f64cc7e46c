-- Longs with both of their slots (JVMS 2.6.1, 2.6.2).
use Rattle.std.specs.Prelude.{Bool, true, false, not, ◌&&◌, ◌||◌, List, [], ◌∷◌}
use Rattle.class_verify.specs.declared.kinds.Kind.{Kind}
use Rattle.class_verify.specs.declared.kinds.Kind.TheVariants as kinds
use Rattle.class_verify.specs.Kinds.{is_top, is_long}

-- below a slot, each long is under its second slot
abbrev pub is_paired_under : Kind → List Kind → Bool
is_paired_under above [] = true
is_paired_under above (kind ∷ stack) = (not (is_long kind) || is_top above) && is_paired_under kind stack

-- on a stack, its top first; a long on top has no second slot
abbrev pub is_paired_stack : List Kind → Bool
is_paired_stack stack = is_paired_under kinds.Int stack

abbrev pub begins_with_top : List Kind → Bool
begins_with_top [] = false
begins_with_top (kind ∷ slots) = is_top kind

-- in locals, from 0 on, each long is followed by its second slot
abbrev pub are_paired_locals : List Kind → Bool
are_paired_locals [] = true
are_paired_locals (kind ∷ slots) = (not (is_long kind) || begins_with_top slots) && are_paired_locals slots
