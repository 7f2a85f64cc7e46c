-- What the row of a method tells of its frames, and which handler catches an exception (JVMS 2.10, 4.7.3).
use Rattle.std.specs.Prelude.{ℕ, Bool, true, List, [], ◌∷◌, Option, Some, None, if◌then◌else◌}
use Rattle.class_code.specs.Rows.{MethodRow, Catch}
use Rattle.jvm_model.specs.Plans.{Oracle, below}
use Rattle.jvm_model.specs.Frames.{covers}
use Rattle.jvm_state.specs.declared.members.Handling.{Handling}
use Rattle.jvm_state.specs.declared.members.Handling.TheVariants as handlings

abbrev pub handling_of : Handling → Option (Option ℕ)
handling_of handlings.NoCode = None
handling_of handlings.Leaves = Some None
handling_of (handlings.CaughtAt pc) = Some (Some pc)

-- the most operands and the locals of a method
abbrev pub room_of : MethodRow → ℕ × ℕ
room_of row = (row.max_stack, row.max_locals)

-- all is caught where no class is named
abbrev pub catches : Oracle → List ℕ → Option (List ℕ) → Bool
catches oracle class None = true
catches oracle class (Some name) = oracle (below class name)

-- the handler of the first range that covers the pc and catches the class
abbrev pub handler_among : Oracle → List ℕ → ℕ → List Catch → Option ℕ
handler_among oracle class pc [] = None
handler_among oracle class pc (c ∷ ranges) =
    if covers pc c then (if catches oracle class c.class then Some c.handler else handler_among oracle class pc ranges)
    else handler_among oracle class pc ranges

abbrev pub handler_in : Oracle → List ℕ → ℕ → MethodRow → Option ℕ
handler_in oracle class pc row = handler_among oracle class pc row.catches
