use Rattle.std.proofs.Common.{◌≡◌, arith}
use Rattle.std.proofs.lemmas.Bool.{ne_eqb}
use Rattle.class_write.proofs.FrameLemmas.{IsSmall, small}
use Rattle.class_write.proofs.frames.put_lists.Goals as goal

pub put_types-requires : goal.put_types-requires
put_types-requires c =
    let s : IsSmall c.args.frame.now = small c.args.frame.now c.requires (ne_eqb c.args.frame.now.tag 255 c.if-frame.false) in
    let k : c.as_slice-locals.result.now ≡ c.args.frame.now.locals = c.as_slice-locals.ensures in
    rw k (omega (arith, s.locals))

pub put_types-requires-2 : goal.put_types-requires-2
put_types-requires-2 c =
    let s : IsSmall c.args.frame.now = small c.args.frame.now c.requires (ne_eqb c.args.frame.now.tag 255 c.if-frame.false) in
    let k : c.as_slice-stack.result.now ≡ c.args.frame.now.stack = c.as_slice-stack.ensures in
    rw k (omega (arith, s.stack))
