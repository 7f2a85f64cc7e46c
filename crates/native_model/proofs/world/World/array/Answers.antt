use Rattle.std.proofs.Common.{List, ℕ, refl, ap, Some, None, option_map}
use Rattle.jvm_heap.specs.Objects.{ArrayKind}
use Rattle.jvm_heap.specs.declared.slot.Slot.{Slot}
use Rattle.native_model.specs.Worlds.{as_array}
use Rattle.native_model.proofs.Told.{looked, world_of}
use Rattle.native_model.proofs.world.World.array.Goals as goal

pub returns-in-Some-array_in : goal.returns-in-Some-array_in
returns-in-Some-array_in g c =
    ap (option_map (λ (a : ArrayKind (List ℕ) × List Slot). a.1)) (looked _ _ as_array _ _ _ _ _ _ _ (Some c.in-Some.object.now) _ (world_of c.self.view_is) c.in-Some.ensures.value (c.in-Some-array_in.ensures.parts _ _))

pub returns-in-None-array_in : goal.returns-in-None-array_in
returns-in-None-array_in g c =
    ap (option_map (λ (a : ArrayKind (List ℕ) × List Slot). a.1)) (looked _ _ as_array _ _ _ _ _ _ _ (Some c.in-Some.object.now) _ (world_of c.self.view_is) c.in-Some.ensures.value (c.in-None-array_in.ensures.parts _ _))

pub returns-in-None : goal.returns-in-None
returns-in-None g c =
    ap (option_map (λ (a : ArrayKind (List ℕ) × List Slot). a.1)) (looked _ _ as_array _ _ _ _ _ _ _ None _ (world_of c.self.view_is) c.in-None.ensures.value refl)
