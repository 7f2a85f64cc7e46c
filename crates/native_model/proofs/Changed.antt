-- What the world says of objects that are changed where classes and sites are told by place.
use Rattle.std.proofs.Common.{◌≡◌, ℕ, ℤ, List, length, refl, sym, subst, ap, ◌∙◌}
use Rattle.std.specs.Prelude.{◌++◌, Option, Some, None, IsSome, option_map, option_and_then, Result, Ok}
use Rattle.class_model.specs.declared.identifiers.ClassId.{ClassId}
use Rattle.class_model.specs.declared.identifiers.SiteId.{SiteId}
use Rattle.jvm_heap.specs.declared.slot.Slot.{Slot}
use Rattle.jvm_heap.specs.declared.fault.HeapFault.{HeapFault}
use Rattle.jvm_heap.specs.Objects.{Object, throwable, enumerated, builder}
use Rattle.jvm_heap.specs.Heaps.{Heap, object_at, replaced, grown}
use Rattle.jvm_heap.specs.Changes.{CanChange, Enlarges, with_units, with_message, with_name, changed, enlarged}
use Rattle.jvm_heap.specs.Renaming.{renamed, renamed_object, SameChange}
use Rattle.jvm_heap.proofs.Renamed.{objects_renamed, heaps_renamed}
use Rattle.native_model.specs.declared.fault.StepFault.{StepFault}
use Rattle.native_model.specs.declared.native_end.NativeEnd.{NativeEnd}
use Rattle.native_model.specs.declared.native_end.NativeEnd.TheVariants as ends
use Rattle.native_model.specs.Worlds.{Origin, NamedObject, NamedHeap, Surround, World, with_heap, as_builder, seen}
use Rattle.native_model.specs.Thrown.{incompatible_change}
use Rattle.native_model.specs.Answers.{Answer, throws, gives_nothing, gives_within, or_mismatch}
use Rattle.native_model.specs.Plain.{throwable_with, throwable_made, message_of, enum_made_of, enum_made, name_of}
use Rattle.native_model.specs.Ends.{named_world, end_of_growing, builder_enlarged}
use Rattle.native_model.proofs.Told.{Does, read, grew}

none_some : {A : Type 0} (o : Option A) → IsSome o → o ≡ None → ⊥
none_some o some none = cc

from_some : {A P : Type 0} (o : Option A) → IsSome o → ((a : A) → Some a ≡ o → P) → P
from_some {A} {P} None some next = absurd (none_some {A = A} None some refl)
from_some {A} {P} (Some a) some next = next a refl

-- a change of one object, or none
told : World → Option NamedHeap → Answer
told w None = throws incompatible_change
told w (Some h) = gives_nothing (with_heap h w)

told_message : (n message cause : ℕ) (w : World) (x : Option NamedObject) → throwable_with n message cause w x ≡ told w (option_map (λ o. replaced n o w.heap) (option_and_then (with_message message cause) x))
unfolding told
told_message n message cause w (Some (throwable class fields old before)) = refl
told_message n message cause w _ = refl

told_name : (n name : ℕ) (ordinal : ℤ) (w : World) (x : Option NamedObject) → enum_made_of n name ordinal w x ≡ told w (option_map (λ o. replaced n o w.heap) (option_and_then (with_name name ordinal) x))
unfolding told
told_name n name ordinal w (Some (enumerated class fields old at)) = refl
told_name n name ordinal w _ = refl

grown_builder : (n : ℕ) (more units : List ℕ) (h : NamedHeap) (x : Option NamedObject) → Some units ≡ option_and_then as_builder x → grown n (builder (units ++ more)) (length more) h ≡ option_and_then (λ o. grown n o (length more) h) (option_and_then (with_units more) x)
grown_builder n more units h (Some (builder built)) is =
    let same : units ≡ built = cc in ap (λ u. grown n (builder (u ++ more)) (length more) h) same
grown_builder n more units h _ is = cc

module _ (f : ClassId → List ℕ) (g : SiteId → Origin) where
  builder_can : (more : List ℕ) (x : Option (Object ClassId SiteId)) → IsSome (option_and_then (λ o. as_builder (renamed_object f g o)) x) → IsSome (option_and_then (with_units more) x)
  builder_can more (Some (builder built)) some = some
  builder_can more _ some = some

  message_can : (message cause : ℕ) (x : Option (Object ClassId SiteId)) → IsSome (option_and_then (λ o. message_of (renamed_object f g o)) x) → IsSome (option_and_then (with_message message cause) x)
  message_can message cause (Some (throwable class fields old before)) some = some
  message_can message cause _ some = some

  name_can : (name : ℕ) (ordinal : ℤ) (x : Option (Object ClassId SiteId)) → IsSome (option_and_then (λ o. name_of (renamed_object f g o)) x) → IsSome (option_and_then (with_name name ordinal) x)
  name_can name ordinal (Some (enumerated class fields old at)) some = some
  name_can name ordinal _ some = some

  module _ (dest : List (List ℕ × List ℕ)) (log : List (List ℕ)) (surround : Option Surround) (owner : Option (List ℕ)) where
    -- what is seen in the world has the same change in the heap
    can : {A : Type 0} (what : NamedObject → Option A) (change : Object ClassId SiteId → Option (Object ClassId SiteId)) → ((x : Option (Object ClassId SiteId)) → IsSome (option_and_then (λ o. what (renamed_object f g o)) x) → IsSome (option_and_then change x)) → (n : ℕ) (h : Heap ClassId SiteId) (w : World) → named_world f g h dest log surround owner ≡ w → IsSome (seen what n w) → CanChange change n h
    can what change same n h w is some =
        same (object_at n h) (subst IsSome (read f g what n h) (subst (λ v. IsSome (seen what n v)) (sym is) some))

    pub can_append : (more : List ℕ) (n : ℕ) (h : Heap ClassId SiteId) (w : World) → named_world f g h dest log surround owner ≡ w → IsSome (seen as_builder n w) → CanChange (with_units more) n h
    can_append more = can as_builder (with_units more) (builder_can more)

    pub can_set_message : (message cause n : ℕ) (h : Heap ClassId SiteId) (w : World) → named_world f g h dest log surround owner ≡ w → IsSome (seen message_of n w) → CanChange (with_message message cause) n h
    can_set_message message cause = can message_of (with_message message cause) (message_can message cause)

    pub can_set_name : (name : ℕ) (ordinal : ℤ) (n : ℕ) (h : Heap ClassId SiteId) (w : World) → named_world f g h dest log surround owner ≡ w → IsSome (seen name_of n w) → CanChange (with_name name ordinal) n h
    can_set_name name ordinal = can name_of (with_name name ordinal) (name_can name ordinal)

    append_there : (n : ℕ) (more units : List ℕ) (h : Heap ClassId SiteId) → Some units ≡ option_and_then as_builder (object_at n (renamed f g h)) → grown n (builder (units ++ more)) (length more) (renamed f g h) ≡ option_map (renamed f g) (enlarged (with_units more) n (length more) h)
    unfolding enlarged
    append_there n more units h is =
        grown_builder n more units (renamed f g h) (object_at n (renamed f g h)) is ∙ (heaps_renamed f g).enlarged (with_units more) (with_units more) n (length more) h ((objects_renamed f g).with_units more)

    appended_there : (slot : Option Slot) (n : ℕ) (more units : List ℕ) (r : Result Unit HeapFault) (old new : Heap ClassId SiteId) → Some units ≡ option_and_then as_builder (object_at n (renamed f g old)) → Enlarges (enlarged (with_units more) n (length more) old) r old new → Does (builder_enlarged slot n more (named_world f g old dest log surround owner)) (end_of_growing slot r) (named_world f g old dest log surround owner) (named_world f g new dest log surround owner)
    appended_there slot n more units r old new is larger =
        subst (λ t. Does (or_mismatch t (λ built. gives_within slot (named_world f g old dest log surround owner) (grown n (builder (built ++ more)) (length more) (renamed f g old)))) (end_of_growing slot r) (named_world f g old dest log surround owner) (named_world f g new dest log surround owner)) is (grew f g slot dest log surround owner (enlarged (with_units more) n (length more) old) (grown n (builder (units ++ more)) (length more) (renamed f g old)) r old new (append_there n more units old is) larger)

    appended_by : (slot : Option Slot) (n : ℕ) (more units : List ℕ) (r : Result Unit HeapFault) (old new : Heap ClassId SiteId) (w : World) (end : Result NativeEnd StepFault) → named_world f g old dest log surround owner ≡ w → Some units ≡ seen as_builder n w → Enlarges (enlarged (with_units more) n (length more) old) r old new → end ≡ end_of_growing slot r → Does (builder_enlarged slot n more w) end w (named_world f g new dest log surround owner)
    appended_by slot n more units r old new w end is seen_there larger ends =
        subst (λ v. Some units ≡ seen as_builder n v → Does (builder_enlarged slot n more v) end v (named_world f g new dest log surround owner)) is (λ there. subst (λ e. Does (builder_enlarged slot n more (named_world f g old dest log surround owner)) e (named_world f g old dest log surround owner) (named_world f g new dest log surround owner)) (sym ends) (appended_there slot n more units r old new there larger)) seen_there

    pub appended_in : (slot : Option Slot) (n : ℕ) (more : List ℕ) (r : Result Unit HeapFault) (old new : Heap ClassId SiteId) (w : World) (end : Result NativeEnd StepFault) → named_world f g old dest log surround owner ≡ w → IsSome (seen as_builder n w) → Enlarges (enlarged (with_units more) n (length more) old) r old new → end ≡ end_of_growing slot r → Does (builder_enlarged slot n more w) end w (named_world f g new dest log surround owner)
    appended_in slot n more r old new w end is there larger ends =
        from_some (seen as_builder n w) there (λ units seen_there. appended_by slot n more units r old new w end is seen_there larger ends)

    changed_there : (before : Object ClassId SiteId → Option (Object ClassId SiteId)) (after : NamedObject → Option NamedObject) (n : ℕ) (old new : Heap ClassId SiteId) → SameChange f g before after → changed before n old ≡ Some new → told (named_world f g old dest log surround owner) (changed after n (renamed f g old)) ≡ gives_nothing (named_world f g new dest log surround owner)
    unfolding told
    changed_there before after n old new same is =
        ap (told (named_world f g old dest log surround owner)) ((heaps_renamed f g).changed before after n old same ∙ ap (option_map (renamed f g)) is)

    message_there : (n message cause : ℕ) (old new : Heap ClassId SiteId) → changed (with_message message cause) n old ≡ Some new → throwable_made n message cause (named_world f g old dest log surround owner) ≡ gives_nothing (named_world f g new dest log surround owner)
    unfolding changed
    message_there n message cause old new is =
        told_message n message cause (named_world f g old dest log surround owner) (object_at n (renamed f g old)) ∙ changed_there (with_message message cause) (with_message message cause) n old new ((objects_renamed f g).with_message message cause) is

    name_there : (n name : ℕ) (ordinal : ℤ) (old new : Heap ClassId SiteId) → changed (with_name name ordinal) n old ≡ Some new → enum_made n name ordinal (named_world f g old dest log surround owner) ≡ gives_nothing (named_world f g new dest log surround owner)
    unfolding changed
    name_there n name ordinal old new is =
        told_name n name ordinal (named_world f g old dest log surround owner) (object_at n (renamed f g old)) ∙ changed_there (with_name name ordinal) (with_name name ordinal) n old new ((objects_renamed f g).with_name name ordinal) is

    pub message_set : (n message cause : ℕ) (old new : Heap ClassId SiteId) (w : World) → named_world f g old dest log surround owner ≡ w → changed (with_message message cause) n old ≡ Some new → Does (throwable_made n message cause w) (Ok (ends.Gives None)) w (named_world f g new dest log surround owner)
    message_set n message cause old new w is change =
        subst (λ v. Does (throwable_made n message cause v) (Ok (ends.Gives None)) v (named_world f g new dest log surround owner)) is (record { answer = message_there n message cause old new change; kept = tt; unmade = tt })

    pub name_set : (n name : ℕ) (ordinal : ℤ) (old new : Heap ClassId SiteId) (w : World) → named_world f g old dest log surround owner ≡ w → changed (with_name name ordinal) n old ≡ Some new → Does (enum_made n name ordinal w) (Ok (ends.Gives None)) w (named_world f g new dest log surround owner)
    name_set n name ordinal old new w is change =
        subst (λ v. Does (enum_made n name ordinal v) (Ok (ends.Gives None)) v (named_world f g new dest log surround owner)) is (record { answer = name_there n name ordinal old new change; kept = tt; unmade = tt })
