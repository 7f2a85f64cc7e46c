-- What the machine reads and changes in a heap, as the world of a body shows it.
use Rattle.std.proofs.Common.{◌≡◌, ℕ, zero, suc, Bool, true, false, List, [], ◌∷◌, refl, sym, subst, ap, ◌∙◌, arith}
use Rattle.std.specs.Prelude.{nat_lt, slice_get, if◌then◌else◌, length, Option, Some, None, IfOk, OnErr, option_map, option_and_then, Result, Ok, Err}
use Rattle.std.proofs.lemmas.List.{length-map}
use Rattle.class_model.specs.declared.identifiers.ClassId.{ClassId}
use Rattle.class_model.specs.declared.identifiers.SiteId.{SiteId}
use Rattle.jvm_heap.specs.declared.slot.Slot.{Slot}
use Rattle.jvm_heap.specs.declared.fault.HeapFault.{HeapFault}
use Rattle.jvm_heap.specs.Objects.{Object}
use Rattle.jvm_heap.specs.Heaps.{Heap, object_at, slots_of, slot_at, set_slot, with_slot}
use Rattle.jvm_heap.specs.Changes.{Makes}
use Rattle.jvm_heap.specs.Renaming.{renamed, renamed_object, renamed_made}
use Rattle.jvm_heap.proofs.Renamed.{heaps_renamed}
use Rattle.native_model.specs.declared.fault.StepFault.{StepFault}
use Rattle.native_model.specs.declared.native_end.NativeEnd.{NativeEnd}
use Rattle.native_model.specs.Worlds.{Origin, NamedObject, NamedHeap, Surround, Placed, in_heap, seen}
use Rattle.native_model.specs.Answers.{gives_made}
use Rattle.native_model.specs.Ends.{named_world, end_of_making, Answers}
use Rattle.native_model.proofs.Told.{looked, made_in, named}

none_before : {A B : Type 0} (q : A → B) (o : Option A) → option_map q o ≡ None → o ≡ None
none_before q None is = refl
none_before q (Some a) is = cc

no_place : {A : Type 0} (items : List A) (place : ℕ) → slice_get items place ≡ None → nat_lt place (length items) ≡ false
no_place [] place none = grind arith
no_place (a ∷ items) zero none = cc
no_place (a ∷ items) (suc place) none = let behind : nat_lt place (length items) ≡ false = no_place items place none in grind arith

none_set : (n place : ℕ) (slot : Slot) (h : Heap ClassId SiteId) (o : Option (Object ClassId SiteId)) → option_and_then (λ o. slice_get (slots_of o) place) o ≡ None → option_and_then (set_slot n place slot h) o ≡ None
none_set n place slot h None none = refl
none_set n place slot h (Some o) none = rw (no_place (slots_of o) place none) refl

-- nothing is written where there is no slot
pub not_written : (n place : ℕ) (slot : Slot) (h : Heap ClassId SiteId) → slot_at n place h ≡ None → with_slot n place slot h ≡ None
unfolding slot_at with_slot
not_written n place slot h none = none_set n place slot h (object_at n h) none

pub ruleset unwritten = (not_written)

module _ (f : ClassId → List ℕ) (g : SiteId → Origin) where
  number_renamed : (defined : Option (ℕ × Heap ClassId SiteId)) (r : Result ℕ HeapFault) (new : Heap ClassId SiteId) → IfOk r (λ number. defined ≡ Some (number, new)) → IfOk r (λ number. option_map (renamed_made f g) defined ≡ Some (number, renamed f g new))
  number_renamed defined (Ok number) new is = ap (option_map (renamed_made f g)) is
  number_renamed defined (Err fault) new is = tt

  kept_renamed : (r : Result ℕ HeapFault) (old new : Heap ClassId SiteId) → OnErr r (new ≡ old) → OnErr r (renamed f g new ≡ renamed f g old)
  kept_renamed (Ok number) old new is = tt
  kept_renamed (Err fault) old new is = ap (renamed f g) is

  makes_renamed : (defined : Option (ℕ × Heap ClassId SiteId)) (r : Result ℕ HeapFault) (old new : Heap ClassId SiteId) → Makes defined r old new → Makes (option_map (renamed_made f g) defined) r (renamed f g old) (renamed f g new)
  makes_renamed defined r old new makes =
      record {
        made = number_renamed defined r new makes.made;
        full = (λ is. ap (option_map (renamed_made f g)) (makes.full.0 is), λ none. makes.full.1 (none_before (renamed_made f g) defined none));
        kept = kept_renamed r old new makes.kept;
      }

module _ {N : Type 0} (class_name : N → ClassId → List ℕ) (site_origin : N → SiteId → Origin) (n : N) (dest : List (List ℕ × List ℕ)) (log : List (List ℕ)) (surround : Option Surround) (owner : Option (List ℕ)) where
  abbrev shown : Heap ClassId SiteId → Placed N
  shown h = record { names = n; world = named_world (class_name n) (site_origin n) h dest log surround owner }

  abbrev by_name : Heap ClassId SiteId → NamedHeap
  by_name h = renamed (class_name n) (site_origin n) h

  pub made_there : (make : N → NamedHeap → Option (ℕ × NamedHeap)) (defined : Option (ℕ × Heap ClassId SiteId)) (r : Result ℕ HeapFault) (old new : Heap ClassId SiteId) (w : Placed N) → shown old ≡ w → make n (by_name old) ≡ option_map (renamed_made (class_name n) (site_origin n)) defined → Makes defined r old new → Makes (make w.names w.world.heap) r w.world.heap (by_name new)
  made_there make defined r old new w is same makes =
      subst (λ v. Makes (make v.names v.world.heap) r v.world.heap (by_name new)) is
      (subst (λ d. Makes d r (by_name old) (by_name new)) (sym same) (makes_renamed (class_name n) (site_origin n) defined r old new makes))

  pub rest_there : (old new : Heap ClassId SiteId) (w : Placed N) → shown old ≡ w → shown new ≡ in_heap (by_name new) w
  rest_there old new w is = subst (λ v. shown new ≡ in_heap (by_name new) v) is refl

  pub object_there : (number : ℕ) (h : Heap ClassId SiteId) (w : Placed N) (found : Option (Object ClassId SiteId)) → shown h ≡ w → found ≡ object_at number h → option_map (renamed_object (class_name w.names) (site_origin w.names)) found ≡ object_at number w.world.heap
  object_there number h w found is there =
      subst (λ v. option_map (renamed_object (class_name v.names) (site_origin v.names)) found ≡ object_at number v.world.heap) is
      (ap (option_map (renamed_object (class_name n) (site_origin n))) there ∙ sym ((heaps_renamed (class_name n) (site_origin n)).object_at number h))

  pub count_there : (count : ℕ) (h : Heap ClassId SiteId) (w : Placed N) → shown h ≡ w → count ≡ length h.objects → count ≡ length w.world.heap.objects
  unfolding renamed
  count_there count h w is counted =
      subst (λ v. count ≡ length v.world.heap.objects) is (counted ∙ sym (length-map h.objects (renamed_object (class_name n) (site_origin n))))

  pub slot_there : (number place : ℕ) (h : Heap ClassId SiteId) (w : Placed N) → shown h ≡ w → slot_at number place w.world.heap ≡ slot_at number place h
  slot_there number place h w is =
      subst (λ v. slot_at number place v.world.heap ≡ slot_at number place h) is ((heaps_renamed (class_name n) (site_origin n)).slot_at number place h)

  pub slot_written : (number place : ℕ) (slot : Slot) (old new : Heap ClassId SiteId) (w : Placed N) → shown old ≡ w → with_slot number place slot old ≡ Some new → with_slot number place slot w.world.heap ≡ Some (by_name new)
  slot_written number place slot old new w is change =
      subst (λ v. with_slot number place slot v.world.heap ≡ Some (by_name new)) is
      ((heaps_renamed (class_name n) (site_origin n)).with_slot number place slot old ∙ ap (option_map (renamed (class_name n) (site_origin n))) change)

  pub slot_tried : (number place : ℕ) (slot : Slot) (done : Bool) (old new : Heap ClassId SiteId) (w : Placed N) → shown old ≡ w → with_slot number place slot old ≡ (if done then Some new else None) → with_slot number place slot w.world.heap ≡ (if done then Some (by_name new) else None)
  slot_tried number place slot true old new w is change = slot_written number place slot old new w is change
  slot_tried number place slot false old new w is change =
      subst (λ v. with_slot number place slot v.world.heap ≡ None) is
      ((heaps_renamed (class_name n) (site_origin n)).with_slot number place slot old ∙ ap (option_map (renamed (class_name n) (site_origin n))) change)

  -- what is told of an object by the names of its world
  pub told_there : {A : Type 0} (told : N → Option A) (what : NamedObject → Option A) (number : ℕ) (h : Heap ClassId SiteId) (w : Placed N) (found : Option (Object ClassId SiteId)) → shown h ≡ w → found ≡ object_at number h → told n ≡ option_and_then (λ o. what (renamed_object (class_name n) (site_origin n) o)) found → told w.names ≡ seen what number w.world
  told_there told what number h w found is there says =
      subst (λ v. told v.names ≡ seen what number v.world) is
      (looked (class_name n) (site_origin n) what number h dest log surround owner (shown h).world found (told n) refl there says)

  pub given_there : (make : N → NamedHeap → Option (ℕ × NamedHeap)) (defined : Option (ℕ × Heap ClassId SiteId)) (r : Result ℕ HeapFault) (old new : Heap ClassId SiteId) (w : Placed N) (end : Result NativeEnd StepFault) → shown old ≡ w → make n (by_name old) ≡ option_map (renamed_made (class_name n) (site_origin n)) defined → Makes defined r old new → end ≡ end_of_making r → Answers (gives_made w.world (make w.names w.world.heap)) end w (shown new)
  given_there make defined r old new w end is same makes ends =
      subst (λ v. Answers (gives_made v.world (make v.names v.world.heap)) end v (shown new)) is
      (named (made_in (class_name n) (site_origin n) (make n) dest log surround owner defined r old new (shown old).world end refl same makes ends) refl)
