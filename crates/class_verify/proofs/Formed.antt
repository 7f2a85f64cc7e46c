-- The shapes of a method have both slots of each long, and keep the limits of its code.
use Rattle.std.proofs.Common.{◌≡◌, ℕ, zero, suc, ◌+◌, ◌-◌, ◌≤◌, Bool, true, false, not, ◌||◌, ◌==◌, cond, List, [], ◌∷◌, ◌++◌, length, reverse, Option, Some, None, Ok, Err, Result, refl, sym, ap, ◌∙◌, subst, inl, inr, arith, append_assoc, length-append}
use Rattle.std.specs.Prelude.{Contains, find, nat_lt, nat_le, option_and_then, replicate}
use Rattle.std.specs.List.{AllByRecursion}
use Rattle.std.proofs.lemmas.Bool.{cases_Bool}
use Rattle.std.proofs.lemmas.List.{reverse-append, length-reverse, length-replicate}
use Rattle.std.proofs.lemmas.List.Elements.{All-from_recursion, All-contains, Contains-push, Contains-append_left, Contains-append_right}
use Rattle.jvm_tables.specs.declared.code.Instr.{Instr}
use Rattle.jvm_tables.specs.declared.instruction.OpRow.{OpRow}
use Rattle.jvm_tables.proofs.Rows.{both}
use Rattle.class_model.specs.declared.stack_map.FrameType.{FrameType}
use Rattle.class_model.specs.declared.stack_map.StackFrame.{StackFrame}
use Rattle.class_verify.specs.declared.cause.Cause.{Cause}
use Rattle.class_verify.specs.declared.frames.Limits.{Limits}
use Rattle.class_verify.specs.declared.frames.Written.{Written}
use Rattle.class_verify.specs.declared.kinds.Kind.{Kind}
use Rattle.class_verify.specs.declared.kinds.Kind.TheVariants as kinds
use Rattle.class_verify.specs.declared.shape.Shape.{Shape}
use Rattle.class_verify.specs.Bodies.{Body, Point, first_point, joined_to, joined, shape_before, fallen, following, point_of}
use Rattle.class_verify.specs.Decoded.{decoded}
use Rattle.class_code.specs.Operands.{local_of}
use Rattle.class_verify.specs.Effects.{stack_after, left}
use Rattle.class_verify.specs.Frames.{slots_of, all_slots, shape_of, chopped, types_after, has_float, written, frames_from, frame_at}
use Rattle.class_verify.specs.Kinds.{is_top, is_long}
use Rattle.class_verify.specs.Laws.{IsCaught, IsSafe}
use Rattle.class_verify.specs.LawsOfInstructions.{IsLeft}
use Rattle.class_verify.specs.LawsOfShapes.{IsFormed, IsFormedBody, EachBodyIsFormed, EachShapeIsFormed, EachStaysFormed, EachHandlerHasRoom}
use Rattle.class_verify.specs.Pairs.{is_paired_under, is_paired_stack, are_paired_locals}
use Rattle.class_code.specs.Control.{falls}
use Rattle.class_code.specs.Codes.{stack_map_in}
use Rattle.class_verify.specs.Verified.{limits_of, first_types, body_of}
use Rattle.class_verify.proofs.Entries.{IsToldBy, told_by}
use Rattle.class_verify.proofs.Lefts.{each_leaves_by_parts}
use Rattle.class_verify.proofs.Moves.{stack_matched}
use Rattle.class_verify.proofs.Ordering.{also}
use Rattle.class_verify.proofs.PairedLocals.{store_kept}
use Rattle.class_verify.proofs.PairedStacks.{Matched, paired_under}
use Rattle.class_verify.proofs.Points.{point_before, following_arrives}
use Rattle.class_verify.proofs.Safe.{all_fit_selves, before_is, joined_is, each_is_safe}

-- the slots of a type, in any case
abbrev chosen : Bool → Bool → Bool → List Kind
chosen a b c = cond a (kinds.Top ∷ []) (cond b (kinds.Int ∷ []) (cond c (kinds.Long ∷ kinds.Top ∷ []) (kinds.Reference ∷ [])))

slots_are_paired : (a b c : Bool) → is_paired_stack (reverse (chosen a b c)) ≡ true
slots_are_paired true b c = refl
slots_are_paired false true c = refl
slots_are_paired false false true = refl
slots_are_paired false false false = refl

slots_before : (a b c : Bool) (rest : List Kind) → are_paired_locals rest ≡ true → are_paired_locals (chosen a b c ++ rest) ≡ true
slots_before true b c rest p = p
slots_before false true c rest p = p
slots_before false false true rest p = p
slots_before false false false rest p = p

put_under : (k : Kind) (xs ys : List Kind) → is_paired_under k xs ≡ true → is_paired_stack ys ≡ true → is_paired_under k (xs ++ ys) ≡ true
put_under k [] ys p q = paired_under k ys q
put_under k (x ∷ xs) ys p q =
    let parts : ((not (is_long x) || is_top k) ≡ true) × (is_paired_under x xs ≡ true) = both _ _ p in
    also (not (is_long x) || is_top k) (is_paired_under x (xs ++ ys)) parts.0 (put_under x xs ys parts.1 q)

types_stacked : (types : List FrameType) → is_paired_stack (reverse (all_slots types)) ≡ true
unfolding all_slots
types_stacked [] = refl
types_stacked (t ∷ types) =
    ap is_paired_stack (reverse-append (slots_of t) (all_slots types))
    ∙ put_under kinds.Int (reverse (all_slots types)) (reverse (slots_of t)) (types_stacked types) (slots_are_paired (t.tag == 0) (t.tag == 1) (t.tag == 4))

types_paired : (types : List FrameType) (rest : List Kind) → are_paired_locals rest ≡ true → are_paired_locals (all_slots types ++ rest) ≡ true
unfolding all_slots
types_paired [] rest p = p
types_paired (t ∷ types) rest p =
    ap are_paired_locals (append_assoc (slots_of t) (all_slots types) rest)
    ∙ slots_before (t.tag == 0) (t.tag == 1) (t.tag == 4) (all_slots types ++ rest) (types_paired types rest p)

tops_paired : (n : ℕ) → are_paired_locals (replicate n kinds.Top) ≡ true
tops_paired zero = refl
tops_paired (suc n) = tops_paired n

-- what types say is formed
told_formed : (limits : Limits) (locals stack : List FrameType) (shape : Shape) → shape_of limits locals stack ≡ Some shape → IsFormed limits shape
told_formed limits locals stack shape e =
    let told : IsToldBy limits locals stack shape = told_by limits locals stack shape e in
    let more : ℕ = limits.locals - length (all_slots locals) in
    let low : length (all_slots locals) ≤ limits.locals = told.locals_room in
    let high : length (all_slots stack) ≤ limits.stack = told.stack_room in
    subst (IsFormed limits) (sym told.is) (record {
      stack = types_stacked stack;
      locals = types_paired locals (replicate more kinds.Top) (tops_paired more);
      room = omega (arith, length-reverse (all_slots stack));
      count = omega (arith, length-append (all_slots locals) (replicate more kinds.Top), length-replicate more kinds.Top);
    })

abbrev AreFormed : Limits → Written → Type 0
AreFormed limits w = (shape : Shape) → w.shape ≡ Some shape → IsFormed limits shape

written_formed : (limits : Limits) (at : ℕ) (enough : Bool) (locals stack : List FrameType) → AreFormed limits (written limits at enough locals stack)
written_formed limits at enough locals stack shape e = decided (has_float locals stack) enough e
  where
    decided : (a b : Bool) → cond a None (cond b (shape_of limits locals stack) None) ≡ Some shape → IsFormed limits shape
    decided true b f = cc
    decided false false f = cc
    decided false true f = told_formed limits locals stack shape f

frames_formed : (limits : Limits) (next : ℕ) (before : List FrameType) (frames : List StackFrame) → AllByRecursion (AreFormed limits) (frames_from limits next before frames)
unfolding frames_from
frames_formed limits next before [] = tt
frames_formed limits next before (f ∷ frames) =
    (written_formed limits (next + f.delta) (nat_le (chopped f) (length before)) (types_after f before) f.stack, frames_formed limits (next + f.delta + 1) (types_after f before) frames)

pub each_body_is_formed : EachBodyIsFormed
unfolding body_of
each_body_is_formed class m c = record {
  first = λ shape e. told_formed (limits_of c) (first_types class m) [] shape e;
  frames = λ w shape among e. All-contains (AreFormed (limits_of c)) (body_of class m c).frames w
      (All-from_recursion (AreFormed (limits_of c)) (body_of class m c).frames (frames_formed (limits_of c) 0 (first_types class m) (stack_map_in c.attributes))) among shape e;
}

same_some : (a b : List Kind) → Some a ≡ Some b → a ≡ b
same_some a b e = cc

pub each_stays_formed : EachStaysFormed
each_stays_formed class limits row instr shape after formed e =
    let parts : IsLeft class limits.stack row instr shape after = each_leaves_by_parts class limits.stack row instr shape after e in
    let own : Matched (stack_after class row instr shape.stack) after.stack =
    stack_matched class row instr shape.stack shape.stack after.stack (all_fit_selves shape.stack) formed.stack parts.stack in
    let same : own.stack ≡ after.stack = same_some own.stack after.stack (sym own.is ∙ parts.stack) in
    let kept : (are_paired_locals after.locals ≡ true) × (length after.locals ≡ length shape.locals) = store_kept row.writes shape.locals after.locals (local_of row instr) formed.locals parts.writes in
    record {
      stack = ap is_paired_stack (sym same) ∙ own.paired;
      locals = kept.0;
      room = parts.room;
      count = kept.1 ∙ formed.count;
    }

-- a frame that is found is one of them
found_in : (frames : List Written) (q : ℕ) (w : Written) → find (λ v. v.at == q) frames ≡ Some w → Contains frames w
found_in [] q w e = cc
found_in (v ∷ frames) q w e =
    elim (cases_Bool (v.at == q)) [
      | inl here ↦
          (let found : Some v ≡ Some w = sym (ap (λ c. cond c (Some v) (find (λ u. u.at == q) frames)) here) ∙ e in
          let same : v ≡ w = cc in
          Contains-append_left (v ∷ []) frames w (subst (Contains (v ∷ [])) same (Contains-push [] v)))
      | inr other ↦
          (let later : find (λ u. u.at == q) frames ≡ Some w = sym (ap (λ c. cond c (Some v) (find (λ u. u.at == q) frames)) other) ∙ e in
          Contains-append_right (v ∷ []) frames w (found_in frames q w later))
    ]

pub frame_among : (code : List ℕ) (frames : List Written) (q : ℕ) (w : Written) → frame_at code frames q ≡ Some w → Contains frames w
unfolding frame_at
frame_among code frames q w e = decided (nat_lt q (length code)) e
  where
    decided : (b : Bool) → cond b (find (λ v. v.at == q) frames) None ≡ Some w → Contains frames w
    decided true f = found_in frames q w f
    decided false f = cc

shape_formed : (body : Body) (p : Point) (shape : Shape) → IsFormedBody body → ((a : Shape) → p.arrives ≡ Some a → IsFormed body.limits a)
    → shape_before body p ≡ Some shape → IsFormed body.limits shape
shape_formed body p shape formed arrives e = by_frame (frame_at body.code body.frames p.pc) refl (before_is body p shape e)
  where
    by_shape : (w : Written) (found : Option Shape) → frame_at body.code body.frames p.pc ≡ Some w → w.shape ≡ found → option_and_then (joined_to p.arrives) found ≡ Some shape → IsFormed body.limits shape
    by_shape w None f s j = cc
    by_shape w (Some wanted) f s j =
        subst (IsFormed body.limits) (joined_is p.arrives wanted shape j) (formed.frames w wanted (frame_among body.code body.frames p.pc w f) s)

    by_frame : (found : Option Written) → frame_at body.code body.frames p.pc ≡ found → joined p.arrives found ≡ Some shape → IsFormed body.limits shape
    by_frame None f j = arrives shape j
    by_frame (Some w) f j = by_shape w w.shape f refl j

-- an instruction that goes on, and what it leaves of the shape before it
pub record Fallen (body : Body) (before : Option Shape) (found : Result (Instr × OpRow) Cause) (after : Shape) : Type 0 where
  pub instr : Instr
  pub row : OpRow
  pub shape : Shape
  pub decodes : found ≡ Ok (instr, row)
  pub is : before ≡ Some shape
  pub leaves : left body.class body.limits.stack row instr shape ≡ Some after

pub fallen_parts : (body : Body) (before : Option Shape) (found : Result (Instr × OpRow) Cause) (after : Shape) → fallen body before found ≡ Some after → Fallen body before found after
fallen_parts body before (Err cause) after e = cc
fallen_parts body before (Ok found) after e = decided (falls found.1.flow) before e
  where
    decided : (b : Bool) (o : Option Shape) → cond b (option_and_then (left body.class body.limits.stack found.1 found.0) o) None ≡ Some after → Fallen body o (Ok found) after
    decided false o f = cc
    decided true None f = cc
    decided true (Some shape) f = record { instr = found.0; row = found.1; shape = shape; decodes = refl; is = refl; leaves = f }

arrival_formed : (body : Body) (n : ℕ) (p : Point) (a : Shape) → IsFormedBody body → point_of body n ≡ Some p → p.arrives ≡ Some a → IsFormed body.limits a
unfolding point_of
arrival_formed body zero p a formed there e =
    let same : first_point body ≡ p = cc in
    formed.first a (ap (λ (q : Point). q.arrives) same ∙ e)
arrival_formed body (suc n) p a formed there e =
    let r : (r : Point) × (point_of body n ≡ Some r) × (following body r ≡ Some p) = point_before body n p there in
    let parts : Fallen body (shape_before body r.0) (decoded body.code (r.0).pc) a = fallen_parts body _ _ a (sym (following_arrives body r.0 p r.2) ∙ e) in
    let before : IsFormed body.limits parts.shape = shape_formed body r.0 parts.shape formed (λ b f. arrival_formed body n r.0 b formed r.1 f) parts.is in
    each_stays_formed body.class body.limits parts.row parts.instr parts.shape a before parts.leaves

pub point_formed : (body : Body) (n : ℕ) (p : Point) (shape : Shape) → IsFormedBody body → point_of body n ≡ Some p → shape_before body p ≡ Some shape → IsFormed body.limits shape
point_formed body n p shape formed there e = shape_formed body p shape formed (λ a f. arrival_formed body n p a formed there f) e

pub each_shape_is_formed : EachShapeIsFormed
each_shape_is_formed body pc shape formed has = point_formed body has.0 has.1 shape formed has.2 has.4

pub each_handler_has_room : EachHandlerHasRoom
each_handler_has_room body pc shape h fit formed has among covered =
    let safe : (i : Instr) × (r : OpRow) × (after : Shape) × IsSafe body pc shape i r after = each_is_safe body pc shape fit has in
    let caught : IsCaught body h.handler shape.locals = safe.3.handlers h among covered in
    let there : IsFormed body.limits caught.0 = each_shape_is_formed body h.handler caught.0 formed caught.1 in
    let room : length (kinds.Reference ∷ []) ≤ body.limits.stack = subst (λ (x : List Kind). length x ≤ body.limits.stack) caught.2 there.room in
    omega arith
