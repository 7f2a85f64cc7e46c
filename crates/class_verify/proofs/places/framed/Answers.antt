use Rattle.std.proofs.Common.{◌≡◌, ◌-◌, ◌<◌, ℕ, suc, List, Option, None, length, get_or, sym, ap, ◌∙◌, subst, arith}
use Rattle.std.proofs.Math.ListN.{length-set}
use Rattle.std.proofs.lemmas.List.{length-replicate}
use Rattle.class_verify.specs.declared.frames.Written.{Written}
use Rattle.class_verify.proofs.Tables.{Tabled, table_start, table_step}
use Rattle.class_verify.proofs.places.framed.Goals as goal

pub loop-place-init : goal.loop-place-init
loop-place-init c = record {
  inside = omega arith;
  same = ap length c.in_ok-table.ensures ∙ length-replicate (length c.args.code.now) None;
  told = let P : List (Option ℕ) → Type 0 = λ t. Tabled c.args.code.now c.args.frames.now t (length c.args.frames.now) in
      subst P (sym c.in_ok-table.ensures) (table_start c.args.code.now c.args.frames.now);
}

pub loop-place-preserved : goal.loop-place-preserved
loop-place-preserved c =
    let less : ℕ = c.loop-place.place - 1 in
    let up : c.loop-place.place ≡ suc less = omega arith in
    let inside : less < length c.args.frames.now = omega arith in
    let T : ℕ → Type 0 = λ n. Tabled c.args.code.now c.args.frames.now c.loop-place.table.items n in
    let P : List (Option ℕ) → Type 0 = λ t. Tabled c.args.code.now c.args.frames.now t less in
    record {
      inside = omega arith;
      same = ap length c.enter_frame.ensures ∙ length-set c.loop-place.table.items _ _ ∙ c.loop-place.invariant.same;
      told = subst P (sym c.enter_frame.ensures)
          (table_step c.args.code.now c.args.frames.now c.loop-place.table.items less (get_or c.args.frames.now less c.index-frames-place.result) inside
          (ap (λ (w : Written). get_or c.args.frames.now less w) c.index-frames-place.is) c.loop-place.invariant.same (subst T up c.loop-place.invariant.told));
    }
