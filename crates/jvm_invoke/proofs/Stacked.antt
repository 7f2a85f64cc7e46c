-- Frames as they are told by name.
use Rattle.std.proofs.Common.{◌≡◌, ℕ, suc, Bool, true, false, List, [], ◌∷◌, ◌++◌, refl, ap}
use Rattle.std.specs.Prelude.{map, reverse, Option, Some, None, option_map, if◌then◌else◌}
use Rattle.std.proofs.lemmas.List.{reverse-append}
use Rattle.class_model.specs.declared.identifiers.ClassId.{ClassId}
use Rattle.jvm_model.specs.Plans.{Initialiser}
use Rattle.jvm_model.specs.Frames as frames
use Rattle.jvm_state.specs.declared.frame.Frame.{Frame}
use Rattle.jvm_state.specs.declared.frame.Frame.TheVariants as kinds
use Rattle.jvm_state.specs.Frames.{frame_of}
use Rattle.jvm_state.specs.Names.{Names}
use Rattle.jvm_state.specs.Stacks.{counted, top_of}
use Rattle.jvm_invoke.specs.Machines.{first_of}

-- what is kept with the last one first
pub put_last : {A : Type 0} → (xs : List A) (x : A) → reverse (xs ++ x ∷ []) ≡ x ∷ reverse xs
put_last xs x = reverse-append xs (x ∷ [])

module _ (n : Names) (initialiser : ClassId → Initialiser) where
  -- as many frames are counted
  pub as_many : (stack : List Frame) → frames.counted (map (frame_of n initialiser) stack) ≡ counted stack
  as_many [] = refl
  as_many (kinds.Method f ∷ stack) = ap suc (as_many stack)
  as_many (kinds.Native f ∷ stack) = ap suc (as_many stack)
  as_many (kinds.Forwarding site slots ∷ stack) = ap suc (as_many stack)
  as_many (kinds.Adapting a ∷ stack) = as_many stack
  as_many (kinds.Initialising i ∷ stack) = as_many stack

  pub first_named : (stack : List Frame) → first_of (map (frame_of n initialiser) stack)
      ≡ option_map (λ found. (frame_of n initialiser found.0, map (frame_of n initialiser) found.1)) (top_of stack)
  first_named [] = refl
  first_named (f ∷ stack) = refl
