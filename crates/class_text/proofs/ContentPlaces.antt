-- What stands before the place of a fault in the content of an attribute.
use Rattle.std.proofs.Common.{◌≡◌, ℕ, suc, ◌+◌, ◌-◌, ◌≤◌, Bool, true, false, cond, List, ◌++◌, length, take, drop, codes, bytes_eq, Ok, Err, refl, sym, ap, ◌∙◌, arith}
use Rattle.std.proofs.lemmas.List.{take-append-drop, length-take, length-drop}
use Rattle.class_model.specs.declared.constant_pool.Pool.{Pool}
use Rattle.class_model.specs.Attributes.{Place, in_class, in_field, in_method, in_code, is_known, IsCodeAttributes}
use Rattle.class_model.specs.Spelling as spelling
use Rattle.class_text.specs.Reading.{Fault, cut_short, fault_place, is_cut, Reading, place, IsBytes}
use Rattle.class_text.specs.Readers.{Reader}
use Rattle.class_text.specs.Elements.{leads_to_text}
use Rattle.class_text.specs.Attributes.{text_or_empty, own_name, own_content_at, content_at, code_content_at, bootstraps_at, constant_value_at, stack_map_at, annotations_at, code_at, other_at}
use Rattle.class_text.specs.Places.{IsOnlyCut, IsCutBefore}
use Rattle.class_text.proofs.Numbers.{IsBytes-take}
use Rattle.class_text.proofs.Places.{err_is}
use Rattle.class_text.proofs.Readers.{Reads, reads_on}
use Rattle.class_text.proofs.Numbered.{IsFew}
use Rattle.class_text.proofs.Inside.{Inside, inside_cut, inside_strict}
use Rattle.class_text.proofs.AttributeLaws.{stack_maps, bootstraps, constant_values, annotated}
use Rattle.class_text.proofs.CodeLaws.{code_reads}
use Rattle.class_text.proofs.AttributePlaces.{stack_map_inside, bootstraps_inside, constant_value_inside, annotations_inside, code_inside}

-- before each fault of a reader whose bytes begin at a place or behind it
abbrev CutBefore : {A : Type 0} → ℕ → Reader A → Type 0
CutBefore low read = (end : ℕ) (bytes : List ℕ) (f : Fault) → IsBytes bytes → low + length bytes ≤ end → read end bytes ≡ Err f → place end bytes ≤ fault_place f → IsCutBefore read end bytes f

-- A fault of a front stays, and what is read of a front is read of all; so a front before the fault can only be cut.
cut_before : {A : Type 0} (low : ℕ) (read : Reader A) (P : A → Type 0) (s : A → List ℕ) → Reads read P s → Inside low 0 read → CutBefore low read
cut_before {A = A} low read P s r i end bytes f are room e behind = go (read (fault_place f) front) refl
  where
    n : ℕ
    n = fault_place f - place end bytes

    front : List ℕ
    front = take n bytes

    more : List ℕ
    more = drop n bytes

    fits : IsBytes front
    fits = IsBytes-take n bytes are

    most : fault_place f ≤ end
    most = inside_cut end f (i.faults end bytes f are room e)

    size : length front ≡ n
    size = omega (arith, length-take n bytes, most, behind, room)

    full : fault_place f + length more ≡ end
    full = omega (arith, length-drop n bytes, most, behind, room)

    all : read (fault_place f + length more) (front ++ more) ≡ Err f
    all = ap (λ (m : ℕ). read m (front ++ more)) full ∙ ap (read end) (take-append-drop n bytes) ∙ e

    room_front : low + length front ≤ fault_place f
    room_front = omega (arith, size, behind, room)

    cut : (g : Fault) → read (fault_place f) front ≡ Err g → (is_cut g ≡ false → ⊥) → IsOnlyCut (fault_place f) (read (fault_place f) front)
    cut (cut_short at) is none = (at, inside_cut (fault_place f) (cut_short at) (i.faults (fault_place f) front (cut_short at) fits room_front is), is)
    cut g is none = absurd (none refl)

    stays : (g : Fault) → read (fault_place f) front ≡ Err g → is_cut g ≡ false → ⊥
    stays g is plain =
        let same : g ≡ f = err_is {A = A × List ℕ} g f (sym (r.stays (fault_place f) front more g fits plain is) ∙ all) in
        let named = ap fault_place same in
        let before = inside_strict (fault_place f) g plain (i.faults (fault_place f) front g fits room_front is) in
        omega (arith, named, before)

    go : (answer : Reading A) → read (fault_place f) front ≡ answer → IsOnlyCut (fault_place f) (read (fault_place f) front)
    go (Ok x) is = absurd (let good = reads_on read P s r (fault_place f) front more x.0 x.1 fits is in let bad : Ok (x.0, x.1 ++ more) ≡ Err f = sym good ∙ all in cc)
    go (Err g) is = cut g is (stays g is)

either_cut : {A : Type 0} (low : ℕ) (b : Bool) (one other : Reader A) → (b ≡ true → CutBefore low one) → (b ≡ false → CutBefore low other) → CutBefore low (λ end bytes. cond b (one end bytes) (other end bytes))
either_cut low true one other r q = r refl
either_cut low false one other r q = q refl

other_cut : (name low : ℕ) → CutBefore low (other_at name)
unfolding other_at
other_cut name low end bytes f are room e behind = absurd cc

module _ (pool : Pool) (few : IsFew pool) (name : ℕ) (named : leads_to_text pool name ≡ true) (at : ℕ) where
  stack_map_cut : bytes_eq (codes "StackMapTable") (text_or_empty pool name) ≡ true → CutBefore (suc at) (stack_map_at pool name)
  stack_map_cut e = cut_before (suc at) (stack_map_at pool name) _ _ (stack_maps pool few name named (IsCodeAttributes pool) spelling.code_attribute e) (stack_map_inside pool name at)

  pub code_content_cut : CutBefore (suc at) (code_content_at pool name at)
  unfolding code_content_at
  code_content_cut = either_cut (suc at) (bytes_eq (codes "StackMapTable") (text_or_empty pool name)) (stack_map_at pool name) (other_at name) stack_map_cut (λ n. other_cut name (suc at))

  own_cut : (stand : Place) → bytes_eq (own_name stand) (text_or_empty pool name) ≡ true → CutBefore (suc at) (own_content_at pool stand name at)
  own_cut in_class e = cut_before (suc at) (bootstraps_at pool name) _ _ (bootstraps pool few name named (IsCodeAttributes pool) spelling.code_attribute e) (bootstraps_inside pool name at)
  own_cut (in_field d) e = cut_before (suc at) (constant_value_at pool d name) _ _ (constant_values pool few name named (IsCodeAttributes pool) spelling.code_attribute d e) (constant_value_inside pool name at d)
  own_cut in_method e = cut_before (suc at) (code_at pool name at) _ _ (code_reads pool few name named at e) (code_inside pool name at)
  own_cut in_code e = stack_map_cut e

  pub content_cut : (stand : Place) → CutBefore (suc at) (content_at pool stand name at)
  unfolding content_at
  content_cut stand =
      either_cut (suc at) (bytes_eq (own_name stand) (text_or_empty pool name)) (own_content_at pool stand name at) (λ end bytes. cond (is_known stand (text_or_empty pool name)) (annotations_at pool name at end bytes) (other_at name end bytes)) (own_cut stand)
      (λ o. either_cut (suc at) (is_known stand (text_or_empty pool name)) (annotations_at pool name at) (other_at name)
      (λ k. cut_before (suc at) (annotations_at pool name at) _ _ (annotated pool few name named (IsCodeAttributes pool) spelling.code_attribute stand at o k) (annotations_inside pool name at))
      (λ k. other_cut name (suc at)))
