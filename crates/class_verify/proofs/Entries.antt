-- What the first shape of a method holds.
use Rattle.std.proofs.Common.{◌≡◌, ◌≤◌, Bool, true, false, cond, List, [], ◌∷◌, ◌++◌, length, map, reverse, Some, None, refl, sym, ap, ◌∙◌, subst}
use Rattle.std.specs.Prelude.{flat_map, nat_le}
use Rattle.std.proofs.lemmas.Bool.{leb-true}
use Rattle.jvm_tables.specs.declared.instruction.ValueKind.{ValueKind}
use Rattle.jvm_tables.specs.declared.instruction.ValueKind.TheVariants as values
use Rattle.class_model.specs.declared.stack_map.FrameType.{FrameType}
use Rattle.class_model.specs.Shape.{descriptor_text}
use Rattle.class_verify.specs.declared.frames.Limits.{Limits}
use Rattle.class_verify.specs.declared.kinds.Kind.{Kind}
use Rattle.class_verify.specs.declared.shape.Shape.{Shape}
use Rattle.class_verify.specs.Frames.{slots_of, all_slots, type_of, first_kinds, shape_of}
use Rattle.class_verify.specs.Padding.{padded}
use Rattle.class_verify.specs.Kinds.{slots}
use Rattle.class_verify.specs.LawsOfEntries.{EachEntryIsTold}
use Rattle.class_verify.specs.Verified.{limits_of, body_of}

-- What types say of locals and stack, where they say it.
pub record IsToldBy (limits : Limits) (locals stack : List FrameType) (shape : Shape) : Type 0 where
  pub is : shape ≡ (let s : Shape = record { stack = reverse (all_slots stack); locals = padded limits.locals (all_slots locals) } in s)
  pub locals_room : length (all_slots locals) ≤ limits.locals
  pub stack_room : length (all_slots stack) ≤ limits.stack

pub told_by : (limits : Limits) (locals stack : List FrameType) (shape : Shape) → shape_of limits locals stack ≡ Some shape → IsToldBy limits locals stack shape
unfolding shape_of
told_by limits locals stack shape e =
    by_locals (nat_le (length (all_slots locals)) limits.locals) (nat_le (length (all_slots stack)) limits.stack) refl refl e
  where
    whole : Shape
    whole = record { stack = reverse (all_slots stack); locals = padded limits.locals (all_slots locals) }

    by_locals : (a b : Bool) → nat_le (length (all_slots locals)) limits.locals ≡ a → nat_le (length (all_slots stack)) limits.stack ≡ b
        → cond a (cond b (Some whole) None) None ≡ Some shape → IsToldBy limits locals stack shape
    by_locals false b l s f = cc
    by_locals true false l s f = cc
    by_locals true true l s f =
        let same : whole ≡ shape = cc in
        record {
          is = sym same;
          locals_room = leb-true (length (all_slots locals)) limits.locals l;
          stack_room = leb-true (length (all_slots stack)) limits.stack s;
        }

slots_same : (k : ValueKind) → slots_of (type_of k) ≡ slots k
slots_same values.Int = refl
slots_same values.Long = refl
slots_same values.Reference = refl

all_same : (kinds : List ValueKind) → all_slots (map type_of kinds) ≡ flat_map slots kinds
unfolding all_slots
all_same [] = refl
all_same (k ∷ kinds) = ap (λ xs. xs ++ all_slots (map type_of kinds)) (slots_same k) ∙ ap (λ xs. slots k ++ xs) (all_same kinds)

pub each_entry_is_told : EachEntryIsTold
unfolding body_of all_slots
each_entry_is_told class m c shape e =
    let kinds : List ValueKind = first_kinds m.flags (descriptor_text class.pool m) in
    let told : IsToldBy (limits_of c) (map type_of kinds) [] shape = told_by (limits_of c) (map type_of kinds) [] shape e in
    let same : all_slots (map type_of kinds) ≡ flat_map slots kinds = all_same kinds in
    record {
      stack = ap (λ (s : Shape). s.stack) told.is;
      locals = ap (λ (s : Shape). s.locals) told.is ∙ ap (padded c.max_locals) same;
      room = subst (λ (xs : List Kind). length xs ≤ c.max_locals) same told.locals_room;
    }
