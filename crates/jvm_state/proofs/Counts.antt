-- Frames that are kept with the top last.
use Rattle.std.proofs.Common.{◌≡◌, ◌≤◌, List, [], ◌∷◌, ◌++◌, length, subst, arith}
use Rattle.std.specs.Prelude.{reverse}
use Rattle.std.proofs.lemmas.List.{reverse-append, length-reverse}
use Rattle.jvm_state.specs.declared.frame.Frame.{Frame}
use Rattle.jvm_state.specs.declared.frame.Frame.TheVariants as frames
use Rattle.jvm_state.specs.Stacks.{counted}

pub put_last : (frames : List Frame) (f : Frame) → reverse (frames ++ f ∷ []) ≡ f ∷ reverse frames
put_last frames f = reverse-append frames (f ∷ [])

few : (stack : List Frame) → counted stack ≤ length stack
few [] = omega arith
few (frames.Method f ∷ stack) = let n : counted stack ≤ length stack = few stack in omega arith
few (frames.Native f ∷ stack) = let n : counted stack ≤ length stack = few stack in omega arith
few (frames.Forwarding site slots ∷ stack) = let n : counted stack ≤ length stack = few stack in omega arith
few (frames.Adapting a ∷ stack) = let n : counted stack ≤ length stack = few stack in omega arith
few (frames.Initialising i ∷ stack) = let n : counted stack ≤ length stack = few stack in omega arith

-- No more frames are counted than there are.
pub few_counted : (stack : List Frame) → counted (reverse stack) ≤ length stack
few_counted stack = subst (λ n. counted (reverse stack) ≤ n) (length-reverse stack) (few (reverse stack))

pub ruleset stacked = (put_last, few_counted)
