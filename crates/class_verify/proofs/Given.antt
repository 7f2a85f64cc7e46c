-- Code that fits is safe at an instruction that is given, and where it begins.
use Rattle.std.proofs.Common.{◌≡◌, cond, Option, Some, None, Ok, Result, refl, sym, ap, ◌∙◌, subst}
use Rattle.std.specs.Prelude.{is_none}
use Rattle.jvm_tables.specs.declared.code.Instr.{Instr}
use Rattle.jvm_tables.specs.declared.instruction.OpRow.{OpRow}
use Rattle.class_verify.specs.declared.cause.Cause.{Cause}
use Rattle.class_verify.specs.declared.shape.Shape.{Shape}
use Rattle.class_verify.specs.Bodies.{first_point, joined, shape_before, point_of}
use Rattle.class_verify.specs.Frames.{frame_at}
use Rattle.class_verify.specs.Laws.{IsMet, IsSafe, EachGivenIsSafe}
use Rattle.class_verify.specs.LawsOfEntries.{EachBegins}
use Rattle.class_verify.proofs.Safe.{Sure, sure, has_one, before_is, joined_fits, each_is_safe}

same_found : (i j : Instr) (r s : OpRow) → (let x : Result (Instr × OpRow) Cause = Ok (i, r) in let y : Result (Instr × OpRow) Cause = Ok (j, s) in x ≡ y)
    → (let x : Instr × OpRow = (i, r) in let y : Instr × OpRow = (j, s) in x ≡ y)
same_found i j r s e = cc

pub each_given_is_safe : EachGivenIsSafe
each_given_is_safe body pc shape instr row fit has is =
    let found : (i : Instr) × (r : OpRow) × (after : Shape) × IsSafe body pc shape i r after = each_is_safe body pc shape fit has in
    let pairs : (let x : Instr × OpRow = (found.0, found.1) in let y : Instr × OpRow = (instr, row) in x ≡ y) = same_found found.0 instr found.1 row (sym found.3.decodes ∙ is) in
    (found.2, subst (λ (x : Instr × OpRow). IsSafe body pc shape x.0 x.1 found.2) pairs found.3)

pub each_begins : EachBegins
unfolding point_of shape_before
each_begins body fit =
    let is : Sure body (first_point body) = sure body 0 (first_point body) fit refl in
    let good : (shape : Shape) × (shape_before body (first_point body) ≡ Some shape) = has_one body is.instr is.row (shape_before body (first_point body)) is.sound in
    by_first body.first refl good.0 good.1
  where
    no_shape : (there : Shape) → None ≡ Some there → ⊥
    no_shape there x = cc

    by_first : (o : Option Shape) → body.first ≡ o → (there : Shape) → shape_before body (first_point body) ≡ Some there
        → (first : Shape) × (body.first ≡ Some first) × IsMet body 0 first
    by_first None e there s =
        absurd (no_shape there (sym (ap (λ (f : Option Shape). cond (is_none f) None (joined body.first (frame_at body.code body.frames 0))) e) ∙ s))
    by_first (Some first) e there s =
        let join : joined (Some first) (frame_at body.code body.frames 0) ≡ Some there =
        sym (ap (λ o. joined o (frame_at body.code body.frames 0)) e) ∙ before_is body (first_point body) there s in
        (first, e, (there, (0, first_point body, refl, refl, s), joined_fits first there (frame_at body.code body.frames 0) join))
