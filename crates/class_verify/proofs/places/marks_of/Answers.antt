use Rattle.std.proofs.Common.{◌≡◌, ◌+◌, ◌-◌, ◌<◌, ℕ, zero, suc, Bool, true, false, List, Option, Some, length, set, sym, ap, ◌∙◌, subst, arith}
use Rattle.std.specs.Prelude.{IfSome}
use Rattle.std.proofs.Math.ListN.{length-set}
use Rattle.std.proofs.lemmas.List.{length-replicate}
use Rattle.class_verify.proofs.Tables.{Told, mark_start, mark_step, mark_end, mark_all}
use Rattle.class_verify.proofs.places.marks_of.Goals as goal

pub loop-count-init : goal.loop-count-init
loop-count-init c =
    let whole : length c.args.code.now ≡ length c.args.code.now - 0 = omega arith in
    let P : List Bool → Type 0 = λ m. Told c.args.code.now m (length c.args.code.now) (Some 0) in
    let Q : ℕ → Type 0 = λ n. Told c.args.code.now c.in_ok-marks.marks.items n (Some 0) in
    record {
      same = ap length c.in_ok-marks.ensures ∙ length-replicate (length c.args.code.now) false;
      inside = c.requires.some;
      told = subst Q whole (subst P (sym c.in_ok-marks.ensures) (mark_start c.args.code.now));
    }

pub returns-in_default : goal.returns-in_default
returns-in_default c =
    let P : Option ℕ → Type 0 = λ o. Told c.args.code.now c.loop-count.marks.items (length c.args.code.now - c.loop-count.count) o in
    mark_end c.args.code.now c.loop-count.marks.items (length c.args.code.now - c.loop-count.count) (subst P c.in_default.is c.loop-count.invariant.told)

pub loop-count-preserved : goal.loop-count-preserved
loop-count-preserved c =
    let less : ℕ = length c.args.code.now - (c.loop-count.count + 1) in
    let one : length c.args.code.now - c.loop-count.count ≡ suc less = omega arith in
    let I : Option ℕ → Type 0 = λ o. IfSome o (λ pc. pc < length c.args.code.now) in
    let place : c.in-Some.pc < length c.args.code.now = subst I c.in-Some.is c.loop-count.invariant.inside in
    let within : c.in-Some.pc < length c.loop-count.marks.items = omega (arith, place, c.loop-count.invariant.same) in
    let P : Option ℕ → Type 0 = λ o. Told c.args.code.now c.loop-count.marks.items (length c.args.code.now - c.loop-count.count) o in
    let Q : Option ℕ → Type 0 = λ o. Told c.args.code.now (set c.loop-count.marks.items c.in-Some.pc true) less o in
    record {
      same = length-set c.loop-count.marks.items c.in-Some.pc true ∙ c.loop-count.invariant.same;
      inside = c.next_place-next.ensures.inside;
      told = subst Q (sym c.next_place-next.ensures.value)
          (mark_step c.args.code.now c.loop-count.marks.items (length c.args.code.now - c.loop-count.count) less c.in-Some.pc within one (subst P c.in-Some.is c.loop-count.invariant.told));
    }

pub returns : goal.returns
returns c =
    let none : length c.args.code.now - c.loop-count.count ≡ zero = omega arith in
    let P : ℕ → Type 0 = λ n. Told c.args.code.now c.loop-count.marks.items n c.loop-count.next in
    mark_all c.args.code.now c.loop-count.marks.items c.loop-count.next (subst P none c.loop-count.invariant.told)
