-- Code that fits is safe at each instruction that has a shape.
use Rattle.std.proofs.Common.{◌≡◌, ℕ, zero, suc, ◌≤◌, Bool, true, false, not, ◌&&◌, ◌||◌, ◌==◌, cond, List, [], ◌∷◌, ◌++◌, length, drop, Option, Some, None, Ok, Err, Result, refl, sym, ap, ◌∙◌, subst, inl, inr}
use Rattle.std.specs.Prelude.{Contains, is_some, is_none, nat_lt, nat_le, map, filter, find, option_and_then, option_map}
use Rattle.std.specs.List.{list_all}
use Rattle.std.proofs.lemmas.Bool.{eqb-true, cases_Bool, leb-true}
use Rattle.std.proofs.lemmas.List.Folds.{list_all_at}
use Rattle.std.proofs.lemmas.List.Elements.{Contains-push, Contains-append_left, Contains-append_right}
use Rattle.jvm_tables.specs.declared.code.Instr.{Instr}
use Rattle.jvm_tables.specs.declared.instruction.Flow.{Flow}
use Rattle.jvm_tables.specs.declared.instruction.Flow.TheVariants as flows
use Rattle.jvm_tables.specs.declared.code.CodeFault.{CodeFault}
use Rattle.jvm_tables.specs.declared.code.CodeFault.TheVariants.{FloatOp, UnknownOp, CutShort, BadOperand}
use Rattle.jvm_tables.specs.declared.instruction.Operands.{Operands}
use Rattle.jvm_tables.specs.declared.instruction.OpRow.{OpRow}
use Rattle.jvm_tables.specs.Decoding.{decoding}
use Rattle.jvm_tables.specs.Opcodes.{row_of}
use Rattle.jvm_tables.proofs.Same.{ends_within}
use Rattle.class_model.specs.declared.class_file.Class.{Class}
use Rattle.jvm_tables.proofs.Rows.{both}
use Rattle.class_model.specs.declared.attribute_forms.Handler.{Handler}
use Rattle.class_verify.specs.declared.cause.Cause.{Cause}
use Rattle.class_verify.specs.declared.cause.Cause.TheVariants.{FloatUsed, BadJump, UnknownBootstrap, BadFrame}
use Rattle.class_verify.specs.declared.frames.Written.{Written}
use Rattle.class_verify.specs.declared.kinds.Kind.{Kind}
use Rattle.class_verify.specs.declared.kinds.Kind.TheVariants as kinds
use Rattle.class_verify.specs.declared.shape.Shape.{Shape}
use Rattle.class_verify.specs.Bodies.{Body, Point, first_point, joined_to, joined, shape_before, fallen, following, point_of, HasShape}
use Rattle.class_verify.specs.Decoded.{with_row, told, decoded}
use Rattle.class_verify.specs.Effects.{limited, left, locals_after, stack_after}
use Rattle.class_verify.specs.Floats.{uses_float}
use Rattle.class_verify.specs.Frames.{frame_at}
use Rattle.class_verify.specs.Kinds.{fits, all_fit}
use Rattle.class_verify.specs.Laws.{IsMet, IsCaught, EachIsSafe}
use Rattle.class_verify.specs.Misfits.{unless, ◌<|>◌, is_float_frame, is_result, ends_well, is_sound_after, is_sound, named_cause, cause_of, by_decoded, cause_at, strays, at_instruction, at_no_instruction, BodyFits}
use Rattle.class_verify.specs.Places.{next_place, leads_to, begins}
use Rattle.class_verify.specs.Shapes.{shape_fits}
use Rattle.class_code.specs.Sites.{has_unknown_site}
use Rattle.class_code.specs.Control.{covers, falls, targets_by}
use Rattle.class_verify.specs.Targets.{fits_written, is_accepted, accepts, is_thrown, catches_in, is_caught, catches}
use Rattle.class_verify.proofs.Tables.{leads_nowhere}

-- of causes in order none holds
none_first : (a b : Option Cause) → (a <|> b) ≡ None → (a ≡ None) × (b ≡ None)
none_first None b e = (refl, e)
none_first (Some cause) b e = cc

holds : (b : Bool) (cause : Cause) → unless b cause ≡ None → b ≡ true
holds true cause e = refl
holds false cause e = cc

-- what a whole list passes each of its items passes
pub passes : {X : Type 0} (test : X → Bool) (xs : List X) (x : X) → list_all test xs ≡ true → Contains xs x → test x ≡ true
passes test xs x all c =
    elim (cases_Bool (test x)) [
      | inl e ↦ e
      | inr e ↦ (let no : list_all test xs ≡ false = list_all_at test xs c.0 x c.1 (ap test c.2 ∙ e) in let clash : true ≡ false = sym all ∙ no in cc)
    ]

-- the cause at a point of code that fits
no_cause : (body : Body) (n : ℕ) (p : Point) → BodyFits body → point_of body n ≡ Some p → cause_at body p ≡ None
no_cause body n p fit there = by_cause (cause_at body p) refl
  where
    by_cause : (c : Option Cause) → cause_at body p ≡ c → cause_at body p ≡ None
    by_cause None e = e
    by_cause (Some cause) e = absurd (fit p.pc cause (at_instruction n p cause there e))

neither : (a b : Bool) → not (a || b) ≡ true → a ≡ false
neither true b e = cc
neither false b e = refl

not_so : (b : Bool) → not b ≡ true → b ≡ false
not_so true e = cc
not_so false e = refl

-- An instruction that has no cause, with its row.
pub record Sure (body : Body) (p : Point) : Type 0 where
  pub instr : Instr
  pub row : OpRow
  pub decodes : decoded body.code p.pc ≡ Ok (instr, row)
  pub no_float : uses_float body.class row instr ≡ false
  pub known_site : has_unknown_site body.class row instr ≡ false
  pub jumps : list_all (begins body.code) (targets_by row.flow body.code instr) ≡ true
  pub sound : is_sound body row instr (shape_before body p) ≡ true

sure_of : (body : Body) (p : Point) (found : Result (Instr × OpRow) Cause) → decoded body.code p.pc ≡ found → by_decoded body p found ≡ None → Sure body p
unfolding named_cause cause_of
sure_of body p (Err cause) d e = cc
sure_of body p (Ok found) d e =
    let split : (named_cause body p.pc found.0 found.1 ≡ None) × (unless (is_sound body found.1 found.0 (shape_before body p)) BadFrame ≡ None) = none_first _ _ e in
    let names : (unless (not (uses_float body.class found.1 found.0 || is_float_frame (frame_at body.code body.frames p.pc))) FloatUsed ≡ None)
    × ((unless (not (has_unknown_site body.class found.1 found.0)) UnknownBootstrap <|> unless (list_all (begins body.code) (targets_by found.1.flow body.code found.0)) BadJump) ≡ None) = none_first _ _ split.0 in
    let sites : (unless (not (has_unknown_site body.class found.1 found.0)) UnknownBootstrap ≡ None)
    × (unless (list_all (begins body.code) (targets_by found.1.flow body.code found.0)) BadJump ≡ None) = none_first _ _ names.1 in
    record {
      instr = found.0;
      row = found.1;
      decodes = d;
      no_float = neither _ _ (holds _ _ names.0);
      known_site = not_so _ (holds _ _ sites.0);
      jumps = holds _ _ sites.1;
      sound = holds _ _ split.1;
    }

pub sure : (body : Body) (n : ℕ) (p : Point) → BodyFits body → point_of body n ≡ Some p → Sure body p
unfolding cause_at
sure body n p fit there = sure_of body p (decoded body.code p.pc) refl (no_cause body n p fit there)

-- An instruction that is sound leaves a shape, and all that is asked of it holds.
pub record Sound (body : Body) (instr : Instr) (row : OpRow) (shape : Shape) : Type 0 where
  pub caught : list_all (catches body.code body.frames instr.pc shape.locals) body.table ≡ true
  pub after : Shape
  pub leaves : left body.class body.limits.stack row instr shape ≡ Some after
  pub accepted : list_all (accepts body.code body.frames after) (targets_by row.flow body.code instr) ≡ true
  pub ends : ends_well body instr.pc row.flow row.takes ≡ true

pub sound_of : (body : Body) (instr : Instr) (row : OpRow) (shape : Shape) → is_sound body row instr (Some shape) ≡ true → Sound body instr row shape
sound_of body instr row shape e =
    let split : (list_all (catches body.code body.frames instr.pc shape.locals) body.table ≡ true) × (is_sound_after body row instr (left body.class body.limits.stack row instr shape) ≡ true) = both _ _ e in
    after_of (left body.class body.limits.stack row instr shape) refl split.0 split.1
  where
    after_of : (found : Option Shape) → left body.class body.limits.stack row instr shape ≡ found → list_all (catches body.code body.frames instr.pc shape.locals) body.table ≡ true
        → is_sound_after body row instr found ≡ true → Sound body instr row shape
    after_of None l c s = cc
    after_of (Some after) l c s =
        let split : (list_all (accepts body.code body.frames after) (targets_by row.flow body.code instr) ≡ true) × (ends_well body instr.pc row.flow row.takes ≡ true) = both _ _ s in
        record { caught = c; after = after; leaves = l; accepted = split.0; ends = split.1 }

-- and it has a shape
pub has_one : (body : Body) (instr : Instr) (row : OpRow) (before : Option Shape) → is_sound body row instr before ≡ true → (shape : Shape) × (before ≡ Some shape)
has_one body instr row None e = cc
has_one body instr row (Some shape) e = (shape, refl)

-- the point behind one
pub next_point : (body : Body) (p : Point) (q : ℕ) → next_place body.code p.pc ≡ Some q
    → following body p ≡ Some (record { pc = q; arrives = fallen body (shape_before body p) (decoded body.code p.pc) })
unfolding following
next_point body p q e = ap (option_map _) e

-- An instruction that begins at a place is a point.
reached : (body : Body) (most n : ℕ) (p : Point) (q : ℕ) → point_of body n ≡ Some p → leads_to body.code most (Some p.pc) q ≡ true
    → (m : ℕ) × (r : Point) × (point_of body m ≡ Some r) × (r.pc ≡ q)
unfolding leads_to point_of
reached body zero n p q there e = cc
reached body (suc most) n p q there e =
    elim (cases_Bool (p.pc == q)) [
      | inl here ↦ (n, p, there, eqb-true p.pc q here)
      | inr other ↦ on (λ x f l. reached body most (suc n) (record { pc = x; arrives = fallen body (shape_before body p) (decoded body.code p.pc) }) q (ap (option_and_then (following body)) there ∙ next_point body p x f) l)
          (next_place body.code p.pc) refl (sym (ap (λ b. b || leads_to body.code most (next_place body.code p.pc) q) other) ∙ e)
    ]
  where
    on : ((x : ℕ) → next_place body.code p.pc ≡ Some x → leads_to body.code most (Some x) q ≡ true → (m : ℕ) × (r : Point) × (point_of body m ≡ Some r) × (r.pc ≡ q))
        → (found : Option ℕ) → next_place body.code p.pc ≡ found → leads_to body.code most (next_place body.code p.pc) q ≡ true
        → (m : ℕ) × (r : Point) × (point_of body m ≡ Some r) × (r.pc ≡ q)
    on again None f l = (let clash : true ≡ false = sym l ∙ ap (λ o. leads_to body.code most o q) f ∙ leads_nowhere body.code most q in cc)
    on again (Some x) f l = again x f (sym (ap (λ o. leads_to body.code most o q) f) ∙ l)

pub begun : (body : Body) (q : ℕ) → begins body.code q ≡ true → (m : ℕ) × (r : Point) × (point_of body m ≡ Some r) × (r.pc ≡ q)
unfolding begins point_of
begun body q e = reached body (length body.code) zero (first_point body) q refl e

-- each kind fits itself
pub kind_fits : (k : Kind) → fits k k ≡ true
kind_fits kinds.Top = refl
kind_fits kinds.Int = refl
kind_fits kinds.Long = refl
kind_fits kinds.Reference = refl

pub all_fit_selves : (ks : List Kind) → all_fit ks ks ≡ true
all_fit_selves [] = refl
all_fit_selves (k ∷ ks) = ap (λ b. b && all_fit ks ks) (kind_fits k) ∙ all_fit_selves ks

pub shape_fits_itself : (s : Shape) → shape_fits s s ≡ true
shape_fits_itself s = ap (λ b. b && all_fit s.locals s.locals) (all_fit_selves s.stack) ∙ all_fit_selves s.locals

-- What is joined with a frame's shape is that shape.
pub joined_is : (arrives : Option Shape) (wanted found : Shape) → joined_to arrives wanted ≡ Some found → wanted ≡ found
joined_is None wanted found e = cc
joined_is (Some shape) wanted found e =
    elim (shape_fits shape wanted) as (λ b. cond b (Some wanted) None ≡ Some found → wanted ≡ found) [ true ↦ λ s. cc | false ↦ λ s. cc ] e

-- where there is a shape, it is joined from what arrives and the frame
pub before_is : (body : Body) (p : Point) (shape : Shape) → shape_before body p ≡ Some shape → joined p.arrives (frame_at body.code body.frames p.pc) ≡ Some shape
unfolding shape_before
before_is body p shape e =
    elim (p.pc == 0 && is_none body.first) as (λ b. cond b None (joined p.arrives (frame_at body.code body.frames p.pc)) ≡ Some shape → joined p.arrives (frame_at body.code body.frames p.pc) ≡ Some shape)
    [ true ↦ λ s. cc | false ↦ λ s. s ] e

-- The shape at an instruction with a frame is the frame's.
framed : (body : Body) (q : ℕ) (w : Written) (wanted : Shape) → BodyFits body → begins body.code q ≡ true
    → frame_at body.code body.frames q ≡ Some w → w.shape ≡ Some wanted → HasShape body q wanted
framed body q w wanted fit b f s =
    let there : (m : ℕ) × (r : Point) × (point_of body m ≡ Some r) × (r.pc ≡ q) = begun body q b in
    let r : Point = there.1 in
    let is : Sure body r = sure body there.0 r fit there.2 in
    let good : (shape : Shape) × (shape_before body r ≡ Some shape) = has_one body is.instr is.row (shape_before body r) is.sound in
    let join : joined r.arrives (frame_at body.code body.frames r.pc) ≡ Some good.0 = before_is body r good.0 good.1 in
    let frame : frame_at body.code body.frames r.pc ≡ Some w = ap (frame_at body.code body.frames) there.3 ∙ f in
    let told : joined_to r.arrives wanted ≡ Some good.0 = sym (ap (joined r.arrives) frame ∙ ap (option_and_then (joined_to r.arrives)) s) ∙ join in
    let same : wanted ≡ good.0 = joined_is r.arrives wanted good.0 told in
    (there.0, r, there.2, there.3, good.1 ∙ ap Some (sym same))

-- a target that accepts a shape is met by it
met : (body : Body) (q : ℕ) (after : Shape) → BodyFits body → begins body.code q ≡ true → accepts body.code body.frames after q ≡ true → IsMet body q after
met body q after fit b a = by_frame (frame_at body.code body.frames q) refl a
  where
    by_shape : (w : Written) (found : Option Shape) → frame_at body.code body.frames q ≡ Some w → w.shape ≡ found → fits_written after found ≡ true → IsMet body q after
    by_shape w None f s e = cc
    by_shape w (Some wanted) f s e = (wanted, framed body q w wanted fit b f s, e)

    by_frame : (found : Option Written) → frame_at body.code body.frames q ≡ found → is_accepted after found ≡ true → IsMet body q after
    by_frame None f e = cc
    by_frame (Some w) f e = by_shape w w.shape f refl e

-- the strays of one more frame
strays_of_more : (code : List ℕ) (v : Written) (frames : List Written) → strays code (v ∷ frames) ≡ cond (not (begins code v.at)) (v.at ∷ []) [] ++ strays code frames
unfolding strays
strays_of_more code v frames =
    let p : Written → Bool = λ w. not (begins code w.at) in
    let at : Written → ℕ = λ w. w.at in
    elim (not (begins code v.at)) as (λ b. map at (cond b (v ∷ filter p frames) (filter p frames)) ≡ cond b (v.at ∷ []) [] ++ map at (filter p frames)) [ true ↦ refl | false ↦ refl ]

-- a frame that is found stands where an instruction begins, or its offset is a stray
found_among : (code : List ℕ) (frames : List Written) (q : ℕ) (w : Written) → find (λ v. v.at == q) frames ≡ Some w → begins code q ≡ false → Contains (strays code frames) q
found_among code [] q w e b = cc
found_among code (v ∷ frames) q w e b =
    elim (cases_Bool (v.at == q)) [
      | inl here ↦
          (let same : v.at ≡ q = eqb-true v.at q here in
          let stray : not (begins code v.at) ≡ true = ap (λ k. not (begins code k)) same ∙ ap not b in
          let list : strays code (v ∷ frames) ≡ (v.at ∷ []) ++ strays code frames = strays_of_more code v frames ∙ ap (λ c. cond c (v.at ∷ []) [] ++ strays code frames) stray in
          let one : Contains (v.at ∷ []) q = subst (λ k. Contains (v.at ∷ []) k) same (Contains-push [] v.at) in
          subst (λ xs. Contains xs q) (sym list) (Contains-append_left (v.at ∷ []) (strays code frames) q one))
      | inr other ↦
          (let later : find (λ u. u.at == q) frames ≡ Some w = sym (ap (λ c. cond c (Some v) (find (λ u. u.at == q) frames)) other) ∙ e in
          subst (λ xs. Contains xs q) (sym (strays_of_more code v frames))
          (Contains-append_right (cond (not (begins code v.at)) (v.at ∷ []) []) (strays code frames) q (found_among code frames q w later b)))
    ]

frame_found : (code : List ℕ) (frames : List Written) (q : ℕ) (w : Written) → frame_at code frames q ≡ Some w → find (λ v. v.at == q) frames ≡ Some w
unfolding frame_at
frame_found code frames q w e =
    elim (nat_lt q (length code)) as (λ b. cond b (find (λ v. v.at == q) frames) None ≡ Some w → find (λ v. v.at == q) frames ≡ Some w) [ true ↦ λ s. s | false ↦ λ s. cc ] e

begins_at_frame : (body : Body) (q : ℕ) (w : Written) → BodyFits body → frame_at body.code body.frames q ≡ Some w → begins body.code q ≡ true
begins_at_frame body q w fit f =
    elim (cases_Bool (begins body.code q)) [
      | inl begun_here ↦ begun_here
      | inr stray ↦ absurd (fit q BadFrame (at_no_instruction q (found_among body.code body.frames q w (frame_found body.code body.frames q w f) stray)))
    ]

thrown_is : (stack : List Kind) → is_thrown stack ≡ true → stack ≡ kinds.Reference ∷ []
thrown_is [] e = cc
thrown_is (kinds.Top ∷ []) e = cc
thrown_is (kinds.Int ∷ []) e = cc
thrown_is (kinds.Long ∷ []) e = cc
thrown_is (kinds.Reference ∷ []) e = refl
thrown_is (kind ∷ next ∷ stack) e = cc

-- a handler that accepts the locals catches
caught : (body : Body) (q : ℕ) (locals : List Kind) → BodyFits body → is_caught locals (frame_at body.code body.frames q) ≡ true → IsCaught body q locals
caught body q locals fit a = by_frame (frame_at body.code body.frames q) refl a
  where
    by_shape : (w : Written) (found : Option Shape) → frame_at body.code body.frames q ≡ Some w → w.shape ≡ found → catches_in locals found ≡ true → IsCaught body q locals
    by_shape w None f s e = cc
    by_shape w (Some wanted) f s e =
        let split : (is_thrown wanted.stack ≡ true) × (all_fit locals wanted.locals ≡ true) = both _ _ e in
        (wanted, framed body q w wanted fit (begins_at_frame body q w fit f) f s, thrown_is wanted.stack split.0, split.1)

    by_frame : (found : Option Written) → frame_at body.code body.frames q ≡ found → is_caught locals found ≡ true → IsCaught body q locals
    by_frame None f e = cc
    by_frame (Some w) f e = by_shape w w.shape f refl e

handled : (body : Body) (pc : ℕ) (locals : List Kind) (h : Handler) → BodyFits body → list_all (catches body.code body.frames pc locals) body.table ≡ true
    → Contains body.table h → covers pc h ≡ true → IsCaught body h.handler locals
handled body pc locals h fit all c covered =
    let e : catches body.code body.frames pc locals h ≡ true = passes (catches body.code body.frames pc locals) body.table h all c in
    caught body h.handler locals fit (sym (ap (λ b. not b || is_caught locals (frame_at body.code body.frames h.handler)) covered) ∙ e)

-- what is left of a shape is within the limit
pub limited_is : (most : ℕ) (locals stack : List Kind) (after : Shape) → limited most locals stack ≡ Some after → length after.stack ≤ most
limited_is most locals stack after e =
    elim (nat_le (length stack) most) as (λ b. nat_le (length stack) most ≡ b → cond b (Some (shape_with stack locals)) None ≡ Some after → length after.stack ≤ most)
    [ true ↦ λ le s. (let same : shape_with stack locals ≡ after = cc in subst (λ (x : Shape). length x.stack ≤ most) same (leb-true (length stack) most le)) | false ↦ λ le s. cc ] refl e
  where
    shape_with : List Kind → List Kind → Shape
    shape_with stack locals = record { stack = stack; locals = locals }

left_limited : (class : Class) (most : ℕ) (row : OpRow) (instr : Instr) (shape after : Shape) → left class most row instr shape ≡ Some after → length after.stack ≤ most
unfolding left
left_limited class most row instr shape after e = by_locals (locals_after row instr shape.locals) e
  where
    by_stack : (locals : List Kind) (found : Option (List Kind)) → option_and_then (limited most locals) found ≡ Some after → length after.stack ≤ most
    by_stack locals None s = cc
    by_stack locals (Some stack) s = limited_is most locals stack after s

    by_locals : (found : Option (List Kind)) → option_and_then (λ locals. option_and_then (limited most locals) (stack_after class row instr shape.stack)) found ≡ Some after → length after.stack ≤ most
    by_locals None s = cc
    by_locals (Some locals) s = by_stack locals (stack_after class row instr shape.stack) s

-- where control goes on there is an instruction
pub goes_on : (body : Body) (pc : ℕ) (flow : Flow) (takes : Operands) → falls flow ≡ true → ends_well body pc flow takes ≡ true → is_some (next_place body.code pc) ≡ true
goes_on body pc flows.Next takes f e = e
goes_on body pc flows.Branch takes f e = e
goes_on body pc flows.Jump takes f e = cc
goes_on body pc flows.Switch takes f e = cc
goes_on body pc flows.Return takes f e = cc
goes_on body pc flows.Throw takes f e = cc

pub some_is : (o : Option ℕ) → is_some o ≡ true → (x : ℕ) × (o ≡ Some x)
some_is None e = cc
some_is (Some x) e = (x, refl)

pub joined_fits : (after found : Shape) (frame : Option Written) → joined (Some after) frame ≡ Some found → shape_fits after found ≡ true
joined_fits after found None e = let same : after ≡ found = cc in subst (λ s. shape_fits after s ≡ true) same (shape_fits_itself after)
joined_fits after found (Some w) e = by_shape w.shape e
  where
    by_shape : (o : Option Shape) → option_and_then (joined_to (Some after)) o ≡ Some found → shape_fits after found ≡ true
    by_shape None s = cc
    by_shape (Some wanted) s =
        elim (shape_fits after wanted) as (λ b. shape_fits after wanted ≡ b → cond b (Some wanted) None ≡ Some found → shape_fits after found ≡ true)
        [ true ↦ λ fit t. (let same : wanted ≡ found = cc in subst (λ x. shape_fits after x ≡ true) same fit) | false ↦ λ fit t. cc ] refl s

-- what is left arrives at the next instruction
next_met : (body : Body) (n : ℕ) (p : Point) (q : ℕ) (after : Shape) → BodyFits body → point_of body n ≡ Some p → next_place body.code p.pc ≡ Some q
    → fallen body (shape_before body p) (decoded body.code p.pc) ≡ Some after → IsMet body q after
unfolding point_of
next_met body n p q after fit there next left_here =
    let r : Point = record { pc = q; arrives = fallen body (shape_before body p) (decoded body.code p.pc) } in
    let at : point_of body (suc n) ≡ Some r = ap (option_and_then (following body)) there ∙ next_point body p q next in
    let is : Sure body r = sure body (suc n) r fit at in
    let good : (shape : Shape) × (shape_before body r ≡ Some shape) = has_one body is.instr is.row (shape_before body r) is.sound in
    let join : joined (Some after) (frame_at body.code body.frames q) ≡ Some good.0 = sym (ap (λ o. joined o (frame_at body.code body.frames q)) left_here) ∙ before_is body r good.0 good.1 in
    (good.0, (suc n, r, at, refl, good.1), joined_fits after good.0 (frame_at body.code body.frames q) join)

-- an instruction stands at its place
pub decoded_place : (code : List ℕ) (pc : ℕ) (instr : Instr) (row : OpRow) → decoded code pc ≡ Ok (instr, row) → instr.pc ≡ pc
unfolding decoded
decoded_place code pc instr row e = by_decoding (decoding pc (drop pc code)) refl e
  where
    by_row : (i : Instr) (found : Option OpRow) → decoding pc (drop pc code) ≡ Ok i → with_row i found ≡ Ok (instr, row) → instr.pc ≡ pc
    by_row i None d s = cc
    by_row i (Some r) d s =
        let pairs : (let x : Instr × OpRow = (i, r) in let y : Instr × OpRow = (instr, row) in x ≡ y) = cc in
        ap (λ (i : Instr). i.pc) (sym (ap (λ (x : Instr × OpRow). x.0) pairs)) ∙ (ends_within pc (drop pc code) i d).0

    by_decoding : (found : Result Instr CodeFault) → decoding pc (drop pc code) ≡ found → told found ≡ Ok (instr, row) → instr.pc ≡ pc
    by_decoding (Ok i) d s = by_row i (row_of i.op) d s
    by_decoding (Err (FloatOp op)) d s = cc
    by_decoding (Err (UnknownOp op)) d s = cc
    by_decoding (Err CutShort) d s = cc
    by_decoding (Err BadOperand) d s = cc

pub falls_to : (body : Body) (shape after : Shape) (instr : Instr) (row : OpRow) → falls row.flow ≡ true → left body.class body.limits.stack row instr shape ≡ Some after
    → fallen body (Some shape) (Ok (instr, row)) ≡ Some after
falls_to body shape after instr row f l = ap (λ b. cond b (left body.class body.limits.stack row instr shape) None) f ∙ l

returned : (body : Body) (pc : ℕ) (flow : Flow) (takes : Operands) → ends_well body pc flow takes ≡ true → flow ≡ flows.Return → is_result body.result takes ≡ true
returned body pc flow takes e is = sym (ap (λ f. ends_well body pc f takes) is) ∙ e

pub each_is_safe : EachIsSafe
each_is_safe body pc shape fit has =
    let n : ℕ = has.0 in
    let p : Point = has.1 in
    let there : point_of body n ≡ Some p = has.2 in
    let place : p.pc ≡ pc = has.3 in
    let before : shape_before body p ≡ Some shape = has.4 in
    let is : Sure body p = sure body n p fit there in
    let good : Sound body is.instr is.row shape = sound_of body is.instr is.row shape (ap (is_sound body is.row is.instr) (sym before) ∙ is.sound) in
    let own : is.instr.pc ≡ p.pc = decoded_place body.code p.pc is.instr is.row is.decodes in (
      is.instr,
      is.row,
      good.after,
      record {
        decodes = ap (decoded body.code) (sym place) ∙ is.decodes;
        no_float = is.no_float;
        known_site = is.known_site;
        leaves = good.leaves;
        stack = left_limited body.class body.limits.stack is.row is.instr shape good.after good.leaves;
        targets = λ target c. met body target good.after fit
            (passes (begins body.code) (targets_by is.row.flow body.code is.instr) target is.jumps c)
            (passes (accepts body.code body.frames good.after) (targets_by is.row.flow body.code is.instr) target good.accepted c);
        next = λ f.
            (let some : (q : ℕ) × (next_place body.code is.instr.pc ≡ Some q) = some_is _ (goes_on body is.instr.pc is.row.flow is.row.takes f good.ends) in
            let at : next_place body.code p.pc ≡ Some some.0 = ap (next_place body.code) (sym own) ∙ some.1 in
            let falling : fallen body (shape_before body p) (decoded body.code p.pc) ≡ Some good.after =
            ap (λ o. fallen body o (decoded body.code p.pc)) before ∙ ap (fallen body (Some shape)) is.decodes ∙ falls_to body shape good.after is.instr is.row f good.leaves in
            (some.0, ap (next_place body.code) (sym place) ∙ at, next_met body n p some.0 good.after fit there at falling));
        handlers = λ h c covered. handled body is.instr.pc shape.locals h fit good.caught c (ap (λ k. covers k h) (own ∙ place) ∙ covered);
        returns = λ flow. returned body is.instr.pc is.row.flow is.row.takes good.ends flow;
      },
    )
