-- What the world says of a heap whose classes and sites are told by place.
use Rattle.std.proofs.Common.{◌≡◌, ℕ, ◌<◌, ◌≤◌, List, length, refl, sym, subst, ap, ◌∙◌, arith}
use Rattle.std.specs.Prelude.{Option, Some, None, IfSome, IfOk, OnErr, option_map, option_and_then, Result, Ok, Err}
use Rattle.class_model.specs.declared.identifiers.ClassId.{ClassId}
use Rattle.class_model.specs.declared.identifiers.SiteId.{SiteId}
use Rattle.jvm_heap.specs.declared.slot.Slot.{Slot}
use Rattle.jvm_heap.specs.declared.fault.HeapFault.{HeapFault}
use Rattle.jvm_heap.specs.declared.fault.HeapFault.TheVariants as heap_faults
use Rattle.jvm_heap.specs.Objects.{Object, text, builder, cells_of}
use Rattle.jvm_heap.specs.Heaps.{Heap, object_at, most_cells}
use Rattle.jvm_heap.specs.Changes.{Makes, Enlarges}
use Rattle.jvm_heap.specs.Renaming.{renamed, renamed_object, renamed_made}
use Rattle.jvm_heap.proofs.Renamed.{heaps_renamed}
use Rattle.native_model.specs.declared.fault.StepFault.{StepFault}
use Rattle.native_model.specs.declared.native_end.NativeEnd.{NativeEnd}
use Rattle.native_model.specs.Worlds.{Origin, NamedObject, NamedHeap, Surround, World, Placed, with_heap, in_heap, as_text, as_builder, seen}
use Rattle.native_model.specs.Answers.{Answer, gives_made, gives_within}
use Rattle.native_model.specs.Ends.{named_world, end_of_making, end_of_growing, UnlessGiven, answer_of, Answers}

-- what a native does to a world whose names stay
pub record Does (defined : Answer) (result : Result NativeEnd StepFault) (old new : World) : Type 0 where
  pub answer : IfOk result (λ end. defined ≡ answer_of end new)
  pub kept : IfOk result (λ end. UnlessGiven end (new ≡ old))
  pub unmade : OnErr result (new ≡ old)

pub named : {N : Type 0} {defined : Answer} {result : Result NativeEnd StepFault} {old new : Placed N} → Does defined result old.world new.world → new.names ≡ old.names → Answers defined result old new
named does same = record { answer = does.answer; kept = does.kept; unmade = does.unmade; names = same }

pub if_named : {N A : Type 0} (defined : A → Answer) (result : Result NativeEnd StepFault) (old new : Placed N) (o : Option A) → IfSome o (λ a. Does (defined a) result old.world new.world) → new.names ≡ old.names → IfSome o (λ a. Answers (defined a) result old new)
if_named defined result old new None does same = tt
if_named defined result old new (Some a) does same = named does same

same_placed : {N : Type 0} (p q : Placed N) → p.names ≡ q.names → p.world ≡ q.world → p ≡ q
same_placed p q names world =
    ap (λ n. record { names = n; world = p.world }) names ∙ ap (λ w. record { names = q.names; world = w }) world

pub if_in_heap : {N A : Type 0} (heap : A → NamedHeap) (old new : Placed N) (o : Option A) → IfSome o (λ a. new.world ≡ with_heap (heap a) old.world) → new.names ≡ old.names → IfSome o (λ a. new ≡ in_heap (heap a) old)
if_in_heap heap old new None is same = tt
if_in_heap heap old new (Some a) is same = same_placed new (in_heap (heap a) old) same is

-- the parts of a world that is shown
pub world_of : {N : Type 0} {p q : Placed N} → p ≡ q → p.world ≡ q.world
world_of is = ap (λ r. r.world) is

pub names_of : {N : Type 0} {p q : Placed N} → p ≡ q → p.names ≡ q.names
names_of is = ap (λ r. r.names) is

then_renamed : {A B C : Type 0} (p : B → C) (k : C → Option A) (o : Option B) → option_and_then k (option_map p o) ≡ option_and_then (λ b. k (p b)) o
then_renamed p k None = refl
then_renamed p k (Some b) = refl

module _ (f : ClassId → List ℕ) (g : SiteId → Origin) where
  pub read : {A : Type 0} (what : NamedObject → Option A) (n : ℕ) (h : Heap ClassId SiteId) → option_and_then what (object_at n (renamed f g h)) ≡ option_and_then (λ o. what (renamed_object f g o)) (object_at n h)
  read what n h = ap (option_and_then what) ((heaps_renamed f g).object_at n h) ∙ then_renamed (renamed_object f g) what (object_at n h)

  -- An object that is found in the heap is seen in the world.
  pub looked : {A : Type 0} (what : NamedObject → Option A) (n : ℕ) (h : Heap ClassId SiteId) (dest : List (List ℕ × List ℕ)) (log : List (List ℕ)) (surround : Option Surround) (owner : Option (List ℕ)) (w : World) (found : Option (Object ClassId SiteId)) (told : Option A) → named_world f g h dest log surround owner ≡ w → found ≡ object_at n h → told ≡ option_and_then (λ o. what (renamed_object f g o)) found → told ≡ seen what n w
  looked what n h dest log surround owner w found told is there says =
      subst (λ v. told ≡ seen what n v) is (says ∙ (ap (option_and_then (λ o. what (renamed_object f g o))) there ∙ sym (read what n h)))

  pub text_within : (o : Object ClassId SiteId) (told : Option (List ℕ)) → told ≡ as_text (renamed_object f g o) → cells_of o ≤ most_cells → IfSome told (λ units. length units < most_cells)
  text_within (text units) told is within = subst (λ (t : Option (List ℕ)). IfSome t (λ units. length units < most_cells)) (sym is) (omega arith)
  text_within _ told is within = subst (λ (t : Option (List ℕ)). IfSome t (λ units. length units < most_cells)) (sym is) tt

  pub builder_within : (o : Object ClassId SiteId) (told : Option (List ℕ)) → told ≡ as_builder (renamed_object f g o) → cells_of o ≤ most_cells → IfSome told (λ units. length units < most_cells)
  builder_within (builder units) told is within = subst (λ (t : Option (List ℕ)). IfSome t (λ units. length units < most_cells)) (sym is) (omega arith)
  builder_within _ told is within = subst (λ (t : Option (List ℕ)). IfSome t (λ units. length units < most_cells)) (sym is) tt

  pub made : (dest : List (List ℕ × List ℕ)) (log : List (List ℕ)) (surround : Option Surround) (owner : Option (List ℕ)) (defined : Option (ℕ × Heap ClassId SiteId)) (told : Option (ℕ × NamedHeap)) (r : Result ℕ HeapFault) (old new : Heap ClassId SiteId) → told ≡ option_map (renamed_made f g) defined → Makes defined r old new → Does (gives_made (named_world f g old dest log surround owner) told) (end_of_making r) (named_world f g old dest log surround owner) (named_world f g new dest log surround owner)
  made dest log surround owner defined told (Ok n) old new same makes =
      record {
        answer = ap (gives_made (named_world f g old dest log surround owner)) (same ∙ ap (option_map (renamed_made f g)) makes.made);
        kept = tt;
        unmade = tt;
      }
  made dest log surround owner defined told (Err heap_faults.Full) old new same makes =
      record {
        answer = ap (gives_made (named_world f g old dest log surround owner)) (same ∙ ap (option_map (renamed_made f g)) (makes.full.0 refl));
        kept = ap (λ h. named_world f g h dest log surround owner) makes.kept;
        unmade = tt;
      }
  made dest log surround owner defined told (Err heap_faults.Memory) old new same makes =
      record { answer = tt; kept = tt; unmade = ap (λ h. named_world f g h dest log surround owner) makes.kept }

  pub grew : (slot : Option Slot) (dest : List (List ℕ × List ℕ)) (log : List (List ℕ)) (surround : Option Surround) (owner : Option (List ℕ)) (defined : Option (Heap ClassId SiteId)) (told : Option NamedHeap) (r : Result Unit HeapFault) (old new : Heap ClassId SiteId) → told ≡ option_map (renamed f g) defined → Enlarges defined r old new → Does (gives_within slot (named_world f g old dest log surround owner) told) (end_of_growing slot r) (named_world f g old dest log surround owner) (named_world f g new dest log surround owner)
  grew slot dest log surround owner defined told (Ok done) old new same makes =
      record {
        answer = ap (gives_within slot (named_world f g old dest log surround owner)) (same ∙ ap (option_map (renamed f g)) makes.done);
        kept = tt;
        unmade = tt;
      }
  grew slot dest log surround owner defined told (Err heap_faults.Full) old new same makes =
      record {
        answer = ap (gives_within slot (named_world f g old dest log surround owner)) (same ∙ ap (option_map (renamed f g)) (makes.full.0 refl));
        kept = ap (λ h. named_world f g h dest log surround owner) makes.kept;
        unmade = tt;
      }
  grew slot dest log surround owner defined told (Err heap_faults.Memory) old new same makes =
      record { answer = tt; kept = tt; unmade = ap (λ h. named_world f g h dest log surround owner) makes.kept }

  pub made_in : (make : NamedHeap → Option (ℕ × NamedHeap)) (dest : List (List ℕ × List ℕ)) (log : List (List ℕ)) (surround : Option Surround) (owner : Option (List ℕ)) (defined : Option (ℕ × Heap ClassId SiteId)) (r : Result ℕ HeapFault) (old new : Heap ClassId SiteId) (w : World) (end : Result NativeEnd StepFault) → named_world f g old dest log surround owner ≡ w → make (renamed f g old) ≡ option_map (renamed_made f g) defined → Makes defined r old new → end ≡ end_of_making r → Does (gives_made w (make w.heap)) end w (named_world f g new dest log surround owner)
  made_in make dest log surround owner defined r old new w end is same makes ends =
      subst (λ v. Does (gives_made v (make v.heap)) end v (named_world f g new dest log surround owner)) is (subst (λ e. Does (gives_made (named_world f g old dest log surround owner) (make (renamed f g old))) e (named_world f g old dest log surround owner) (named_world f g new dest log surround owner)) (sym ends) (made dest log surround owner defined (make (renamed f g old)) r old new same makes))
