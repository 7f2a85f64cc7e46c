-- A lambda is made by steps, each of which the code tests by itself.
use Rattle.std.proofs.Common.{◌≡◌, ℕ, Bool, true, false, List, refl, sym, ap, ◌∙◌}
use Rattle.std.specs.Prelude.{Option, Some, None, if◌then◌else◌}
use Rattle.class_code.specs.Sites.{LambdaSite, interface}
use Rattle.class_code.specs.Types.{parameter_kinds}
use Rattle.class_index.specs.Naming.{ClassFacts}
use Rattle.class_index.specs.Outlines.{interface_flag}
use Rattle.class_model.specs.Shape.{has_flag}
use Rattle.jvm_heap.specs.declared.slot.Slot.{Slot}
use Rattle.jvm_heap.specs.Objects.{lambda}
use Rattle.jvm_heap.specs.Heaps.{allocated}
use Rattle.native_model.specs.Thrown.{incompatible_change}
use Rattle.native_model.specs.Worlds.{Origin, World}
use Rattle.jvm_model.specs.Plans.{Oracle, class_of, end_of}
use Rattle.jvm_model.specs.Attempts.{Tried, fine, raises, runs_out, is_stuck, Attempt, gives, throws, on_tried, or_stuck, ◌>>=◌}
use Rattle.jvm_model.specs.States.{MethodFrame}
use Rattle.jvm_model.specs.Types.{facts, if_there}
use Rattle.jvm_model.specs.Instructions.{Effect, popped_slots, if_interface, site_resolved, lambda_created, made_result}
use Rattle.jvm_resolve.proofs.Ends.{end_of-after}
use Rattle.jvm_effects.specs.Effects.{lambda_at, interface_known, handle_resolved}

abbrev lambda_steps : Origin → List ℕ → MethodFrame → World → Attempt Effect
lambda_steps origin name f w = do
  got ← popped_slots (parameter_kinds origin.site.descriptor) f
  known ← interface_known name
  there ← handle_resolved origin.site.implementing
  made_result w got.1 (allocated (lambda origin got.0) w.heap)

-- what goes on once the captured values are taken
abbrev lambda_behind : Origin → List ℕ → List Slot × MethodFrame → World → Attempt Effect
lambda_behind origin name got w = do
  found ← facts name
  fits ← if_interface found
  target ← site_resolved origin.site
  made_result w got.1 (allocated (lambda origin got.0) w.heap)

abbrev steps_behind : Origin → List ℕ → List Slot × MethodFrame → World → Attempt Effect
steps_behind origin name got w = do
  known ← interface_known name
  there ← handle_resolved origin.site.implementing
  made_result w got.1 (allocated (lambda origin got.0) w.heap)

abbrev steps_at : Origin → MethodFrame → World → Attempt Effect
steps_at origin f w = or_stuck (interface origin.site) >>= λ name. lambda_steps origin name f w

module _ (oracle : Oracle) where
  passed : {A B : Type 0} (t : Tried A) (next : Attempt B) → end_of oracle (on_tried (λ x. next) t) ≡ end_of oracle (on_tried (λ (done : Unit {0}). next) (end_of oracle (on_tried (λ x. gives tt) t)))
  passed (fine a) next = refl
  passed (raises t) next = refl
  passed (runs_out b) next = refl
  passed is_stuck next = refl

  resolved_first : {A B : Type 0} (a : Attempt A) (next : Attempt B) → end_of oracle (a >>= λ x. next) ≡ end_of oracle ((a >>= λ x. gives tt) >>= λ (done : Unit {0}). next)
  resolved_first a next =
      end_of-after oracle a (on_tried (λ x. next)) ∙ passed (end_of oracle a) next
      ∙ sym (end_of-after oracle (a >>= λ x. gives tt) (on_tried (λ (done : Unit {0}). next))
      ∙ ap (λ t. end_of oracle (on_tried (λ (done : Unit {0}). next) t)) (end_of-after oracle a (on_tried (λ x. gives tt))))

  by_handle : {B : Type 0} (l : LambdaSite) (next : Attempt B) → end_of oracle (site_resolved l >>= λ x. next) ≡ end_of oracle (handle_resolved l.implementing >>= λ done. next)
  unfolding handle_resolved
  by_handle l next = resolved_first (site_resolved l) next

  by_flag : {B : Type 0} (is : Bool) (next other : Attempt B) → end_of oracle next ≡ end_of oracle other
      → end_of oracle ((if is then gives tt else throws incompatible_change) >>= λ (fits : Unit {0}). next) ≡ end_of oracle ((if is then gives tt else throws incompatible_change) >>= λ (fits : Unit {0}). other)
  by_flag true next other same = same
  by_flag false next other same = refl

  by_answer : {B : Type 0} (name : List ℕ) (answer : Option ClassFacts) (next other : Attempt B) → end_of oracle next ≡ end_of oracle other
      → end_of oracle (if_there name answer >>= λ found. if_interface found >>= λ fits. next) ≡ end_of oracle ((if_there name answer >>= if_interface) >>= λ fits. other)
  by_answer name None next other same = refl
  by_answer name (Some found) next other same = by_flag (has_flag interface_flag found.flags) next other same

  by_taken : (origin : Origin) (name : List ℕ) (w : World) (t : Tried (List Slot × MethodFrame))
      → end_of oracle (on_tried (λ got. lambda_behind origin name got w) t) ≡ end_of oracle (on_tried (λ got. steps_behind origin name got w) t)
  by_taken origin name w (fine got) = by_answer name (oracle (class_of name)) _ _ (by_handle origin.site (made_result w got.1 (allocated (lambda origin got.0) w.heap)))
  by_taken origin name w (raises t) = refl
  by_taken origin name w (runs_out b) = refl
  by_taken origin name w is_stuck = refl

  by_name : (origin : Origin) (name : List ℕ) (f : MethodFrame) (w : World) → end_of oracle (lambda_created origin name f w) ≡ end_of oracle (lambda_steps origin name f w)
  by_name origin name f w =
      end_of-after oracle (popped_slots (parameter_kinds origin.site.descriptor) f) (on_tried (λ got. lambda_behind origin name got w))
      ∙ by_taken origin name w (end_of oracle (popped_slots (parameter_kinds origin.site.descriptor) f))
      ∙ sym (end_of-after oracle (popped_slots (parameter_kinds origin.site.descriptor) f) (on_tried (λ got. steps_behind origin name got w)))

  by_interface : (origin : Origin) (o : Option (List ℕ)) (f : MethodFrame) (w : World)
      → end_of oracle (or_stuck o >>= λ name. lambda_created origin name f w) ≡ end_of oracle (or_stuck o >>= λ name. lambda_steps origin name f w)
  by_interface origin None f w = refl
  by_interface origin (Some name) f w = by_name origin name f w

  pub lambda_told : (origin : Origin) (f : MethodFrame) (w : World) → end_of oracle (lambda_at origin f w) ≡ end_of oracle (steps_at origin f w)
  unfolding lambda_at
  lambda_told origin f w = by_interface origin (interface origin.site) f w

pub ruleset lambdas = (lambda_told, end_of-after)
