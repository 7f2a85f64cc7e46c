-- Where the code's steps lead.
use Rattle.std.specs.Prelude.{◌≡◌, Result, IfOk}
use Rattle.native_model.specs.Ends.{reference_of}
use Rattle.native_model.specs.declared.fault.StepFault.{StepFault}
use Rattle.native_model.specs.Worlds.{World}
use Rattle.jvm_model.specs.States.{State}
use Rattle.jvm_model.specs.Frames as frames
use Rattle.jvm_model.specs.Frames.{without_objects}
use Rattle.jvm_state.specs.declared.moves.Ending.{Ending}
use Rattle.jvm_state.specs.declared.moves.Ending.TheVariants as endings
use Rattle.jvm_state.specs.declared.moves.Need.{Need}
use Rattle.jvm_state.specs.declared.moves.Need.TheVariants as needs
use Rattle.jvm_state.specs.declared.moves.Move.{Move}
use Rattle.jvm_state.specs.declared.moves.Move.TheVariants as moves

abbrev pub ending_of : Ending → frames.Ending
ending_of (endings.Gave slot) = frames.gave slot
ending_of (endings.Threw o) = frames.threw o
ending_of (endings.Spent budget) = frames.spent budget

abbrev pub need_of : Need → frames.Need
need_of (needs.File reference path) = frames.file_at (reference_of reference) path
need_of (needs.Names reference) = frames.names_below (reference_of reference)

-- Nothing of the objects is told where a budget is spent.
abbrev pub world_left : Ending → World → World
world_left (endings.Spent budget) w = without_objects w
world_left ending w = w

-- a move that leaves a state
abbrev pub move_of : Move → State → frames.Move
move_of moves.Goes s = frames.goes s
move_of (moves.Finishes ending) s = frames.finishes (ending_of ending) (world_left ending s.shared.world)
move_of (moves.Needs need) s = frames.needs (need_of need) s
move_of moves.Stuck s = frames.stuck

-- A step leads where it is defined to, with the state that it leaves. Nothing is said where memory is wanted.
abbrev pub Leads : Result Move StepFault → State → frames.Move → Type 0
Leads result new defined = IfOk result (λ move. defined ≡ move_of move new)
