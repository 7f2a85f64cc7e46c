-- Code that has a family of shapes fits.
use Rattle.std.proofs.Common.{◌≡◌, ℕ, zero, suc, ◌+◌, ◌-◌, ◌<◌, ◌≤◌, Bool, true, false, not, ◌&&◌, ◌||◌, ◌==◌, cond, List, [], ◌∷◌, length, Option, Some, None, refl, sym, ap, ◌∙◌, subst, inl, inr, arith}
use Rattle.std.specs.Prelude.{Contains, is_none, map, filter, option_and_then}
use Rattle.std.specs.List.{list_all}
use Rattle.std.proofs.lemmas.Bool.{eq-eqb, cases_Bool}
use Rattle.std.proofs.lemmas.List.Elements.{Contains-push, Contains-append_left, Contains-append_right}
use Rattle.jvm_tables.proofs.Rows.{both}
use Rattle.class_model.specs.declared.attribute_forms.Handler.{Handler}
use Rattle.class_verify.specs.declared.cause.Cause.{Cause}
use Rattle.class_verify.specs.declared.cause.Cause.TheVariants.{FloatUsed, BadJump, UnknownBootstrap, BadFrame}
use Rattle.class_verify.specs.declared.frames.Written.{Written}
use Rattle.class_verify.specs.declared.kinds.Kind.{Kind}
use Rattle.class_verify.specs.declared.shape.Shape.{Shape}
use Rattle.class_verify.specs.Bodies.{Body, Point, first_point, joined_to, joined, shape_before, fallen, following, point_of}
use Rattle.class_verify.specs.Decoded.{decoded}
use Rattle.class_verify.specs.Effects.{left}
use Rattle.class_verify.specs.Frames.{frame_at}
use Rattle.class_verify.specs.Kinds.{all_fit}
use Rattle.class_verify.specs.LawsOfFamilies.{IsFramed, IsTarget, IsHandler, IsRight, IsFamily, EachFamilyFits}
use Rattle.class_verify.specs.LawsOfShapes.{IsFormed, IsFormedBody, IsLeftSo}
use Rattle.class_verify.specs.Misfits.{unless, ◌<|>◌, is_float_frame, ends_well, is_sound_after, is_sound, named_cause, cause_of, by_decoded, cause_at, strays, at_instruction, at_no_instruction}
use Rattle.class_verify.specs.Pairs.{is_paired_stack}
use Rattle.class_verify.specs.Places.{next_place, leads_to, begins}
use Rattle.class_verify.specs.Shapes.{shape_fits}
use Rattle.class_code.specs.Sites.{has_unknown_site}
use Rattle.class_code.specs.Control.{covers, falls, targets_by}
use Rattle.class_verify.specs.Targets.{fits_written, is_accepted, accepts, is_thrown, catches_in, is_caught, catches}
use Rattle.class_verify.proofs.Fitting.{and_false}
use Rattle.class_verify.proofs.Formed.{frame_among}
use Rattle.class_verify.proofs.Monotone.{each_is_monotone}
use Rattle.class_verify.proofs.Ordering.{also, all_through, fits_through_each}
use Rattle.class_verify.proofs.Points.{point_before, following_place, following_arrives, following_rises, following_inside}
use Rattle.class_verify.proofs.Safe.{shape_fits_itself, decoded_place}

-- what each item passes a whole list passes
all_pass : {X : Type 0} (test : X → Bool) (xs : List X) → ((x : X) → Contains xs x → test x ≡ true) → list_all test xs ≡ true
all_pass test [] each = refl
all_pass test (x ∷ xs) each =
    also (test x) (list_all test xs) (each x (Contains-append_left (x ∷ []) xs x (Contains-push [] x)))
    (all_pass test xs (λ y c. each y (Contains-append_right (x ∷ []) xs y c)))

-- An instruction that follows others begins: it is reached in as many steps.
stepped : (body : Body) (n most : ℕ) (p : Point) (q : ℕ) → point_of body n ≡ Some p → leads_to body.code most (Some p.pc) q ≡ true
    → leads_to body.code (n + most) (Some 0) q ≡ true
unfolding point_of leads_to
stepped body zero most p q there e =
    let same : first_point body ≡ p = cc in
    let own : 0 ≡ p.pc = ap (λ (r : Point). r.pc) same in
    let many : most ≡ 0 + most = omega arith in
    subst (λ (k : ℕ). leads_to body.code k (Some 0) q ≡ true) many (ap (λ (i : ℕ). leads_to body.code most (Some i) q) own ∙ e)
stepped body (suc n) most p q there e =
    let r : (r : Point) × (point_of body n ≡ Some r) × (following body r ≡ Some p) = point_before body n p there in
    let at : next_place body.code (r.0).pc ≡ Some p.pc = following_place body r.0 p r.2 in
    let more : ((r.0).pc == q || leads_to body.code most (next_place body.code (r.0).pc) q) ≡ true =
    ap (λ o. (r.0).pc == q || leads_to body.code most o q) at ∙ ap (λ b. (r.0).pc == q || b) e ∙ or_true ((r.0).pc == q) in
    let many : n + suc most ≡ suc n + most = omega arith in
    subst (λ (k : ℕ). leads_to body.code k (Some 0) q ≡ true) many (stepped body n (suc most) r.0 q r.1 more)
  where
    or_true : (b : Bool) → (b || true) ≡ true
    or_true true = refl
    or_true false = refl

-- more steps reach as much
leads_further : (code : List ℕ) (most : ℕ) (at : Option ℕ) (q : ℕ) → leads_to code most at q ≡ true → leads_to code (suc most) at q ≡ true
unfolding leads_to
leads_further code zero at q e = cc
leads_further code (suc most) None q e = cc
leads_further code (suc most) (Some at) q e = decided (at == q) (leads_further code most (next_place code at) q) e
  where
    decided : (b : Bool) → (leads_to code most (next_place code at) q ≡ true → leads_to code (suc most) (next_place code at) q ≡ true)
        → (b || leads_to code most (next_place code at) q) ≡ true → (b || leads_to code (suc most) (next_place code at) q) ≡ true
    decided true further f = refl
    decided false further f = further f

leads_as_far : (code : List ℕ) (most more : ℕ) (at : Option ℕ) (q : ℕ) → leads_to code most at q ≡ true → leads_to code (more + most) at q ≡ true
leads_as_far code most zero at q e =
    let same : most ≡ zero + most = omega arith in
    subst (λ (k : ℕ). leads_to code k at q ≡ true) same e
leads_as_far code most (suc more) at q e =
    let same : suc (more + most) ≡ suc more + most = omega arith in
    subst (λ (k : ℕ). leads_to code k at q ≡ true) same (leads_further code (more + most) at q (leads_as_far code most more at q e))

-- a point lies within the code, at least as far as there are instructions before it
lies_at : (body : Body) (n : ℕ) (p : Point) → 0 < length body.code → point_of body n ≡ Some p → (n ≤ p.pc) × (p.pc < length body.code)
unfolding point_of
lies_at body zero p some there =
    let same : first_point body ≡ p = cc in
    let own : 0 ≡ p.pc = ap (λ (r : Point). r.pc) same in
    (omega (arith, own), omega (arith, own, some))
lies_at body (suc n) p some there =
    let r : (r : Point) × (point_of body n ≡ Some r) × (following body r ≡ Some p) = point_before body n p there in
    let low : n ≤ (r.0).pc = (lies_at body n r.0 some r.1).0 in
    let high : (r.0).pc < p.pc = following_rises body r.0 p r.2 in
    (omega arith, following_inside body r.0 p r.2)

point_begins : (body : Body) (n : ℕ) (p : Point) → 0 < length body.code → point_of body n ≡ Some p → begins body.code p.pc ≡ true
unfolding begins leads_to
point_begins body n p some there =
    let lies : (n ≤ p.pc) × (p.pc < length body.code) = lies_at body n p some there in
    let here : leads_to body.code 1 (Some p.pc) p.pc ≡ true = ap (λ b. b || leads_to body.code 0 (next_place body.code p.pc) p.pc) (eq-eqb p.pc p.pc refl) in
    let far : leads_to body.code (n + 1) (Some 0) p.pc ≡ true = stepped body n 1 p p.pc there here in
    let spare : (more : ℕ) × (more + (n + 1) ≡ length body.code) = spared (n + 1) (length body.code) (omega (arith, lies.0, lies.1)) in
    subst (λ (k : ℕ). leads_to body.code k (Some 0) p.pc ≡ true) spare.1 (leads_as_far body.code (n + 1) spare.0 (Some 0) p.pc far)
  where
    spared : (a b : ℕ) → a ≤ b → (more : ℕ) × (more + a ≡ b)
    spared a b h = (b - a, omega arith)

-- At a point there is a shape, which fits that of the family.
record Taken (body : Body) (shapes : ℕ → Shape) (p : Point) : Type 0 where
  shape : Shape
  is : shape_before body p ≡ Some shape
  fits : shape_fits shape (shapes p.pc) ≡ true
  paired : is_paired_stack shape.stack ≡ true

-- what arrives fits, or there is a frame
abbrev Arrives : Body → (ℕ → Shape) → ℕ → Option Shape → Type 0
Arrives body shapes pc None = IsFramed body pc
Arrives body shapes pc (Some a) = (shape_fits a (shapes pc) ≡ true) × (is_paired_stack a.stack ≡ true)

-- a shape that comes from what arrives and the frame
record Joined (shapes : ℕ → Shape) (pc : ℕ) (found : Option Shape) : Type 0 where
  shape : Shape
  is : found ≡ Some shape
  fits : shape_fits shape (shapes pc) ≡ true
  paired : is_paired_stack shape.stack ≡ true

joined_so : (body : Body) (shapes : ℕ → Shape) (pc : ℕ) (o : Option Shape) → IsFormedBody body → IsFamily body shapes → Arrives body shapes pc o
    → Joined shapes pc (joined o (frame_at body.code body.frames pc))
joined_so body shapes pc o formed family arrives = by_frame o (frame_at body.code body.frames pc) refl arrives
  where
    formed_here : (w : Written) → frame_at body.code body.frames pc ≡ Some w → IsFormed body.limits (shapes pc)
    formed_here w f = formed.frames w (shapes pc) (frame_among body.code body.frames pc w f) (family.frames pc w f).1

    by_shape : (o : Option Shape) (w : Written) → frame_at body.code body.frames pc ≡ Some w → Arrives body shapes pc o → option_and_then (joined_to o) w.shape ≡ Some (shapes pc)
    by_shape None w f a = ap (option_and_then (joined_to None)) (family.frames pc w f).1
    by_shape (Some s) w f a =
        ap (option_and_then (joined_to (Some s))) (family.frames pc w f).1 ∙ ap (λ b. cond b (Some (shapes pc)) None) a.0

    by_frame : (o : Option Shape) (found : Option Written) → frame_at body.code body.frames pc ≡ found → Arrives body shapes pc o → Joined shapes pc (joined o found)
    by_frame None None f a = absurd (no_frame (sym f ∙ a.1))
      where
        no_frame : (let x : Option Written = None in let y : Option Written = Some a.0 in x ≡ y) → ⊥
        no_frame e = cc
    by_frame (Some s) None f a = record { shape = s; is = refl; fits = a.0; paired = a.1 }
    by_frame o (Some w) f a =
        record { shape = shapes pc; is = by_shape o w f a; fits = shape_fits_itself (shapes pc); paired = (formed_here w f).stack }

taken_by : (body : Body) (shapes : ℕ → Shape) (p : Point) → IsFormedBody body → IsFamily body shapes → Arrives body shapes p.pc p.arrives → Taken body shapes p
unfolding shape_before
taken_by body shapes p formed family arrives =
    let j : Joined shapes p.pc (joined p.arrives (frame_at body.code body.frames p.pc)) = joined_so body shapes p.pc p.arrives formed family arrives in
    let none : (p.pc == 0 && is_none body.first) ≡ false = ap (λ (o : Option Shape). p.pc == 0 && is_none o) family.begins_with ∙ and_false (p.pc == 0) in
    record {
      shape = j.shape;
      is = ap (λ b. cond b None (joined p.arrives (frame_at body.code body.frames p.pc))) none ∙ j.is;
      fits = j.fits;
      paired = j.paired;
    }

-- what is left where control goes on fits; elsewhere there is a frame
arrives_so : (body : Body) (shapes : ℕ → Shape) (p : Point) (next : ℕ) → Taken body shapes p → IsRight body shapes p.pc → next_place body.code p.pc ≡ Some next
    → Arrives body shapes next (fallen body (shape_before body p) (decoded body.code p.pc))
arrives_so body shapes p next taken right at =
    let own : IsLeftSo body.class body.limits.stack right.row right.instr taken.shape right.after =
    each_is_monotone body.class body.limits.stack right.row right.instr taken.shape (shapes p.pc) right.after taken.fits taken.paired right.leaves in
    let told : fallen body (shape_before body p) (decoded body.code p.pc)
    ≡ cond (falls right.row.flow) (left body.class body.limits.stack right.row right.instr taken.shape) None =
    ap (λ o. fallen body o (decoded body.code p.pc)) taken.is ∙ ap (fallen body (Some taken.shape)) right.decodes in
    elim (cases_Bool (falls right.row.flow)) [
      | inl on ↦
          subst (Arrives body shapes next) (sym (told ∙ ap (λ b. cond b (left body.class body.limits.stack right.row right.instr taken.shape) None) on ∙ own.leaves))
          (fits_through_each own.own right.after (shapes next) own.fits (right.goes_on next at on), own.paired)
      | inr off ↦
          subst (Arrives body shapes next) (sym (told ∙ ap (λ b. cond b (left body.class body.limits.stack right.row right.instr taken.shape) None) off))
          (right.resumes next at off)
    ]

point_taken : (body : Body) (shapes : ℕ → Shape) (n : ℕ) (p : Point) → IsFormedBody body → IsFamily body shapes → point_of body n ≡ Some p → Taken body shapes p
unfolding point_of
point_taken body shapes zero p formed family there =
    let same : first_point body ≡ p = cc in
    let first : Arrives body shapes 0 (Some family.first) = (family.first_fits, (formed.first family.first family.begins_with).stack) in
    subst (Taken body shapes) same (taken_by body shapes (first_point body) formed family (subst (Arrives body shapes 0) (sym family.begins_with) first))
point_taken body shapes (suc n) p formed family there =
    let r : (r : Point) × (point_of body n ≡ Some r) × (following body r ≡ Some p) = point_before body n p there in
    let before : Taken body shapes r.0 = point_taken body shapes n r.0 formed family r.1 in
    let right : IsRight body shapes (r.0).pc = family.each (r.0).pc (point_begins body n r.0 family.some r.1) in
    let at : next_place body.code (r.0).pc ≡ Some p.pc = following_place body r.0 p r.2 in
    taken_by body shapes p formed family (subst (Arrives body shapes p.pc) (sym (following_arrives body r.0 p r.2)) (arrives_so body shapes r.0 p.pc before right at))

-- a frame that takes in the family's shape takes in what fits it
accepts_so : (body : Body) (shapes : ℕ → Shape) (after own : Shape) (target : ℕ) → IsFamily body shapes → IsTarget body shapes after target
    → shape_fits own after ≡ true → accepts body.code body.frames own target ≡ true
accepts_so body shapes after own target family is fits =
    let told : is_accepted own (frame_at body.code body.frames target) ≡ fits_written own is.framed.0.shape = ap (is_accepted own) is.framed.1 in
    told ∙ ap (fits_written own) (family.frames target is.framed.0 is.framed.1).1 ∙ fits_through_each own after (shapes target) fits is.fits

catches_so : (body : Body) (shapes : ℕ → Shape) (pc : ℕ) (shape : Shape) (h : Handler) → IsFamily body shapes → shape_fits shape (shapes pc) ≡ true
    → (covers pc h ≡ true → IsHandler body shapes pc h) → catches body.code body.frames pc shape.locals h ≡ true
catches_so body shapes pc shape h family fits handler =
    elim (cases_Bool (covers pc h)) [
      | inl on ↦ ap (λ b. not b || is_caught shape.locals (frame_at body.code body.frames h.handler)) on ∙ caught (handler on)
      | inr off ↦ ap (λ b. not b || is_caught shape.locals (frame_at body.code body.frames h.handler)) off
    ]
  where
    caught : IsHandler body shapes pc h → is_caught shape.locals (frame_at body.code body.frames h.handler) ≡ true
    caught is =
        ap (is_caught shape.locals) is.framed.1
        ∙ ap (catches_in shape.locals) (family.frames h.handler is.framed.0 is.framed.1).1
        ∙ ap (λ (s : List Kind). is_thrown s && all_fit shape.locals (shapes h.handler).locals) is.thrown
        ∙ all_through shape.locals (shapes pc).locals (shapes h.handler).locals (both (all_fit shape.stack (shapes pc).stack) (all_fit shape.locals (shapes pc).locals) fits).1 is.locals

sound_so : (body : Body) (shapes : ℕ → Shape) (p : Point) → IsFamily body shapes → (taken : Taken body shapes p) → (right : IsRight body shapes p.pc)
    → is_sound body right.row right.instr (shape_before body p) ≡ true
sound_so body shapes p family taken right =
    let own : IsLeftSo body.class body.limits.stack right.row right.instr taken.shape right.after =
    each_is_monotone body.class body.limits.stack right.row right.instr taken.shape (shapes p.pc) right.after taken.fits taken.paired right.leaves in
    let place : right.instr.pc ≡ p.pc = decoded_place body.code p.pc right.instr right.row right.decodes in
    let handlers : list_all (catches body.code body.frames p.pc taken.shape.locals) body.table ≡ true =
    all_pass (catches body.code body.frames p.pc taken.shape.locals) body.table (λ h c. catches_so body shapes p.pc taken.shape h family taken.fits (right.handlers h c)) in
    let targets : list_all (accepts body.code body.frames own.own) (targets_by right.row.flow body.code right.instr) ≡ true =
    all_pass (accepts body.code body.frames own.own) (targets_by right.row.flow body.code right.instr) (λ t c. accepts_so body shapes right.after own.own t family (right.targets t c) own.fits) in
    let ends : ends_well body right.instr.pc right.row.flow right.row.takes ≡ true = ap (λ k. ends_well body k right.row.flow right.row.takes) place ∙ right.ends in
    let here : list_all (catches body.code body.frames right.instr.pc taken.shape.locals) body.table ≡ true =
    ap (λ k. list_all (catches body.code body.frames k taken.shape.locals) body.table) place ∙ handlers in
    let after : is_sound_after body right.row right.instr (left body.class body.limits.stack right.row right.instr taken.shape) ≡ true =
    ap (is_sound_after body right.row right.instr) own.leaves
    ∙ also (list_all (accepts body.code body.frames own.own) (targets_by right.row.flow body.code right.instr)) (ends_well body right.instr.pc right.row.flow right.row.takes) targets ends in
    ap (is_sound body right.row right.instr) taken.is
    ∙ also (list_all (catches body.code body.frames right.instr.pc taken.shape.locals) body.table)
    (is_sound_after body right.row right.instr (left body.class body.limits.stack right.row right.instr taken.shape)) here after

no_float_frame : (body : Body) (shapes : ℕ → Shape) (pc : ℕ) → IsFamily body shapes → is_float_frame (frame_at body.code body.frames pc) ≡ false
no_float_frame body shapes pc family = by_frame (frame_at body.code body.frames pc) refl
  where
    by_frame : (found : Option Written) → frame_at body.code body.frames pc ≡ found → is_float_frame found ≡ false
    by_frame None f = refl
    by_frame (Some w) f = (family.frames pc w f).0

named_so : (body : Body) (shapes : ℕ → Shape) (pc : ℕ) → IsFamily body shapes → (right : IsRight body shapes pc) → named_cause body pc right.instr right.row ≡ None
unfolding named_cause
named_so body shapes pc family right =
    let jumps : list_all (begins body.code) (targets_by right.row.flow body.code right.instr) ≡ true =
    all_pass (begins body.code) (targets_by right.row.flow body.code right.instr) (λ t c. (right.targets t c).begun) in
    let rest : Bool → Option Cause = λ b. unless (not b) UnknownBootstrap <|> unless (list_all (begins body.code) (targets_by right.row.flow body.code right.instr)) BadJump in
    let first : Bool → Option Cause = λ b. unless (not (b || is_float_frame (frame_at body.code body.frames pc))) FloatUsed <|> rest (has_unknown_site body.class right.row right.instr) in
    ap first right.no_float
    ∙ ap (λ b. unless (not b) FloatUsed <|> rest (has_unknown_site body.class right.row right.instr)) (no_float_frame body shapes pc family)
    ∙ ap rest right.known_site
    ∙ ap (λ b. unless b BadJump) jumps

no_cause_so : (body : Body) (shapes : ℕ → Shape) (p : Point) → IsFamily body shapes → Taken body shapes p → IsRight body shapes p.pc → cause_at body p ≡ None
unfolding cause_at cause_of
no_cause_so body shapes p family taken right =
    ap (by_decoded body p) right.decodes
    ∙ ap (λ c. c <|> unless (is_sound body right.row right.instr (shape_before body p)) BadFrame) (named_so body shapes p.pc family right)
    ∙ ap (λ b. unless b BadFrame) (sound_so body shapes p family taken right)

-- no frame is a stray
no_stray : (code : List ℕ) (frames : List Written) → ((w : Written) → Contains frames w → begins code w.at ≡ true) → strays code frames ≡ []
unfolding strays
no_stray code [] each = refl
no_stray code (w ∷ frames) each =
    let here : begins code w.at ≡ true = each w (Contains-append_left (w ∷ []) frames w (Contains-push [] w)) in
    ap (λ b. map (λ (v : Written). v.at) (cond (not b) (w ∷ filter (λ v. not (begins code v.at)) frames) (filter (λ v. not (begins code v.at)) frames))) here
    ∙ no_stray code frames (λ v c. each v (Contains-append_right (w ∷ []) frames v c))

pub each_family_fits : EachFamilyFits
each_family_fits body shapes formed family pc cause (at_instruction n p found there misfit) =
    let right : IsRight body shapes p.pc = family.each p.pc (point_begins body n p family.some there) in
    let none : cause_at body p ≡ None = no_cause_so body shapes p family (point_taken body shapes n p formed family there) right in
    let clash : None ≡ Some found = sym none ∙ misfit in cc
each_family_fits body shapes formed family pc cause (at_no_instruction stray among) =
    let none : Contains [] stray = subst (λ (xs : List ℕ). Contains xs stray) (no_stray body.code body.frames family.placed) among in
    absurd (omega (arith, none.1))
