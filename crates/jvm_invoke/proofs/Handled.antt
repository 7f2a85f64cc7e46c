-- The handler that catches an exception, by the ranges of a method.
use Rattle.std.proofs.Common.{◌≡◌, ℕ, Bool, true, false, List, [], ◌∷◌, refl}
use Rattle.std.specs.Prelude.{Option, Some, None, option_map, if◌then◌else◌}
use Rattle.class_code.specs.Rows.{MethodRow, Catch}
use Rattle.jvm_model.specs.Plans.{Oracle, Plan, end_of, code_of, below}
use Rattle.jvm_model.specs.States.{Shared, MethodFrame, Frame, of_method}
use Rattle.jvm_model.specs.Frames.{Move, finishes, threw, stuck, covers, if_caught, first_handler, caught_in, unwound}
use Rattle.jvm_state.specs.Handlers.{catches, handler_among, handler_in}
use Rattle.jvm_invoke.specs.Leaving.{caught_at}
use Rattle.jvm_invoke.specs.Machines.{first_of}

-- what is done with a handler, or without one
abbrev by_handler : Oracle → (ℕ → Plan Move) → Plan Move → Option ℕ → Move
by_handler oracle caught past None = end_of oracle past
by_handler oracle caught past (Some handler) = end_of oracle (caught handler)

module _ (oracle : Oracle) (class : List ℕ) (pc : ℕ) (caught : ℕ → Plan Move) (past : Plan Move) where
  caught_or_not : (is : Bool) (handler : ℕ) (rest : Plan Move) (found : Option ℕ) → end_of oracle rest ≡ by_handler oracle caught past found
      → end_of oracle (if is then caught handler else rest) ≡ by_handler oracle caught past (if is then Some handler else found)
  caught_or_not true handler rest found same = refl
  caught_or_not false handler rest found same = same

  by_class : (named : Option (List ℕ)) (handler : ℕ) (rest : Plan Move) (found : Option ℕ) → end_of oracle rest ≡ by_handler oracle caught past found
      → end_of oracle (if_caught class named (caught handler) rest) ≡ by_handler oracle caught past (if catches oracle class named then Some handler else found)
  by_class None handler rest found same = refl
  by_class (Some name) handler rest found same = caught_or_not (oracle (below class name)) handler rest found same

  by_range : (is : Bool) (c : Catch) (rest : Plan Move) (found : Option ℕ) → end_of oracle rest ≡ by_handler oracle caught past found
      → end_of oracle (if is then if_caught class c.class (caught c.handler) rest else rest)
      ≡ by_handler oracle caught past (if is then (if catches oracle class c.class then Some c.handler else found) else found)
  by_range true c rest found same = by_class c.class c.handler rest found same
  by_range false c rest found same = same

  among : (ranges : List Catch) → end_of oracle (first_handler class pc ranges caught past) ≡ by_handler oracle caught past (handler_among oracle class pc ranges)
  among [] = refl
  among (c ∷ ranges) = by_range (covers pc c) c (first_handler class pc ranges caught past) (handler_among oracle class pc ranges) (among ranges)

-- where an exception in a method leads
abbrev by_row : Oracle → MethodFrame → List Frame → Shared → ℕ → List ℕ → Option (Option ℕ) → Move
by_row oracle f frames s o class None = stuck
by_row oracle f frames s o class (Some handler) = by_handler oracle (caught_at f frames s o) (unwound frames s o class) handler

in_row : (oracle : Oracle) (f : MethodFrame) (frames : List Frame) (s : Shared) (o : ℕ) (class : List ℕ) (row : Option MethodRow)
    → end_of oracle (caught_in f frames s o class (unwound frames s o class) row)
    ≡ by_row oracle f frames s o class (option_map (handler_in oracle class f.pc) row)
in_row oracle f frames s o class None = refl
in_row oracle f frames s o class (Some row) = among oracle class f.pc (caught_at f frames s o) (unwound frames s o class) row.catches

pub in_method : (oracle : Oracle) (f : MethodFrame) (frames : List Frame) (s : Shared) (o : ℕ) (class : List ℕ)
    → end_of oracle (unwound (of_method f ∷ frames) s o class)
    ≡ by_row oracle f frames s o class (option_map (handler_in oracle class f.pc) (oracle (code_of f.method)))
unfolding unwound
in_method oracle f frames s o class = in_row oracle f frames s o class (oracle (code_of f.method))

-- no frame is left
pub nothing_left : (oracle : Oracle) (frames : List Frame) (s : Shared) (o : ℕ) (class : List ℕ) → first_of frames ≡ None
    → end_of oracle (unwound frames s o class) ≡ finishes (threw o) s.world
unfolding unwound
nothing_left oracle [] s o class none = refl
nothing_left oracle (f ∷ frames) s o class none = cc

pub ruleset handling = (in_method)
