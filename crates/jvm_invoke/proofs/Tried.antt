-- How attempts go on.
use Rattle.std.proofs.Common.{◌≡◌, ℕ, Bool, true, false, List, [], ◌∷◌, refl, sym, ap}
use Rattle.std.specs.Prelude.{Option, Some, None, Result, Ok, Err, IfSome}
use Rattle.jvm_model.specs.Plans.{Oracle, Plan, end_of}
use Rattle.jvm_model.specs.Attempts.{Tried}
use Rattle.jvm_model.specs.Frames.{Move, settled}
use Rattle.jvm_resolve.specs.declared.stop.Stop.{Stop}
use Rattle.jvm_resolve.specs.declared.stop.Stop.TheVariants as stops
use Rattle.jvm_resolve.specs.Ends.{EndsAs}
use Rattle.jvm_resolve.proofs.Ends.{end_of-after}
use Rattle.jvm_invoke.specs.Machines.{Running, ObjectsAlone, StaysIfThrown}
use Rattle.jvm_invoke.specs.Onwards.{is_told, stopped}

-- an attempt that gives nothing, and left nothing else but objects
pub stopped_alike : {A B P : Type 0} → (oracle : Oracle) (view : A → B) (old new : Running P) (stop : Stop) (t : Tried B) (next : B → Plan Move)
    → is_told stop ≡ true → EndsAs view (Err stop) t → ObjectsAlone old new → StaysIfThrown {A = A} (Err stop) old new
    → end_of oracle (settled old.state.frames old.state.shared next t) ≡ end_of oracle (stopped new.state.frames new.state.shared stop)
stopped_alike oracle view old new (stops.Throws thrown) t next told ends rest kept = rw (ends, kept) refl
stopped_alike oracle view old new (stops.Spends budget) t next told ends rest kept =
    rw ends (sym (ap (λ r. end_of oracle (stopped r.state.frames r.state.shared (stops.Spends budget))) rest))
stopped_alike oracle view old new stops.Stuck t next told ends rest kept = rw ends refl
stopped_alike oracle view old new stops.Memory t next told ends rest kept = cc

pub ruleset attempts = (end_of-after, stopped_alike)
