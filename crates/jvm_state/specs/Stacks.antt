-- Frames one below another, and how many of them are counted.
use Rattle.std.specs.Prelude.{ℕ, zero, suc, Bool, true, false, List, [], ◌∷◌, Option, Some, None, if◌then◌else◌}
use Rattle.jvm_state.specs.declared.frame.Frame.{Frame}
use Rattle.jvm_state.specs.declared.frame.Frame.TheVariants as frames

-- Frames of methods, and of natives and lambdas that call on, are counted.
abbrev pub is_counted : Frame → Bool
is_counted (frames.Method f) = true
is_counted (frames.Native f) = true
is_counted (frames.Forwarding site slots) = true
is_counted (frames.Adapting a) = false
is_counted (frames.Initialising i) = false

abbrev pub counted : List Frame → ℕ
counted [] = zero
counted (f ∷ frames) = if is_counted f then suc (counted frames) else counted frames

-- the uppermost frame, and those below it
abbrev pub top_of : List Frame → Option (Frame × List Frame)
top_of [] = None
top_of (f ∷ frames) = Some (f, frames)
