-- The run of the machine, and what it asks.
use Rattle.std.specs.Prelude.{◌≡◌, ℕ, zero, suc, ◌+◌}
use Rattle.native_model.specs.declared.budget.Budget.TheVariants.{Instructions}
use Rattle.native_model.specs.Worlds.{World}
use Rattle.native_model.specs.Answers.{Last}
use Rattle.jvm_model.specs.Plans.{Oracle, Plan, end_of, AllAsked}
use Rattle.jvm_model.specs.States.{State}
use Rattle.jvm_model.specs.Frames.{Ending, spent, Need, Move, goes, finishes, needs, stuck, without_objects}
use Rattle.jvm_model.specs.Steps.{step, supply}

-- how a run ends, with the world that it leaves; it is stuck where a state meets what verification excludes
pub data Run : Type 0 where
  ended : Ending → World → Run
  has_stuck : Run

-- what files and names there are, by need
abbrev pub Files : Type 0
Files = Need → Last

-- no step needs twice
abbrev pub on_supplied : Move → (State → Run) → Run
on_supplied (goes t) rest = rest t
on_supplied (finishes ending w) rest = ended ending w
on_supplied (needs need t) rest = has_stuck
on_supplied stuck rest = has_stuck

abbrev pub on_move : Oracle → Files → Move → (State → Run) → Run
on_move oracle files (goes t) rest = rest t
on_move oracle files (finishes ending w) rest = ended ending w
on_move oracle files (needs need t) rest = on_supplied (end_of oracle (supply (files need) t)) rest
on_move oracle files stuck rest = has_stuck

-- a run of so many instructions and callbacks
unfoldable pub run : Oracle → Files → ℕ → State → Run
run oracle files zero s = ended (spent Instructions) (without_objects s.shared.world)
run oracle files (suc left) s = on_move oracle files (end_of oracle (step s)) (run oracle files left)

-- another program answers alike what a plan asks
abbrev pub AskAlike : {A : Type 0} → Oracle → Oracle → Plan A → Type 0
AskAlike p q plan = AllAsked (λ l. p l ≡ q l) p plan

abbrev pub SuppliedAlike : Move → (State → Type 0) → Type 0
SuppliedAlike (goes t) Rest = Rest t
SuppliedAlike _ Rest = Unit {0}

abbrev pub MovesAlike : Oracle → Oracle → Files → Move → (State → Type 0) → Type 0
MovesAlike p q files (goes t) Rest = Rest t
MovesAlike p q files (needs need t) Rest =
    AskAlike p q (supply (files need) t) × SuppliedAlike (end_of p (supply (files need) t)) Rest
MovesAlike p q files _ Rest = Unit {0}

-- another program answers alike all that a run asks
unfoldable pub RunsAlike : Oracle → Oracle → Files → ℕ → State → Type 0
RunsAlike p q files zero s = Unit {0}
RunsAlike p q files (suc left) s = AskAlike p q (step s) × MovesAlike p q files (end_of p (step s)) (RunsAlike p q files left)

-- Programs that answer alike what a run asks have the same run.
abbrev pub AlikeRunsAreEqual : Type 0
AlikeRunsAreEqual =
    (p q : Oracle) (files : Files) (left : ℕ) (s : State) → RunsAlike p q files left s → run p files left s ≡ run q files left s

-- it ends by something else than its instructions
abbrev pub EndsEarlier : Run → Type 0
EndsEarlier (ended (spent Instructions) w) = ⊥
EndsEarlier _ = Unit {0}

-- A run that ends within a budget ends so within every greater one.
abbrev pub RunsGoNoFurther : Type 0
RunsGoNoFurther =
    (oracle : Oracle) (files : Files) (left more : ℕ) (s : State) → EndsEarlier (run oracle files left s)
    → run oracle files (left + more) s ≡ run oracle files left s
