use Rattle.std.proofs.Common.{◌<◌, length, sym, ◌∙◌, refl, arith}
use Rattle.class_model.proofs.ClassParts.{parts_name, parts_slash, parts_byte, parts_end}
use Rattle.class_model.proofs.class_names.is_class_name.Goals as goal
use Rattle.class_model.proofs.class_names.is_class_name.Goals.{then-byte-eq47+else-is_fresh, else-byte-eq47+then-may_stand}

pub loop-byte-init : goal.loop-byte-init
loop-byte-init c = sym (parts_name c.args.name.now)

pub returns-then-is_fresh : goal.returns-then-is_fresh
returns-then-is_fresh c =
    let name = c.args.name.now in
    let within : c.loop-byte.byte-index < length name = omega arith in
    sym (c.loop-byte.invariant ∙ parts_slash c.loop-byte.is_fresh name c.loop-byte.byte-index _ within refl c.if-byte-eq47.true ∙ rw c.if-is_fresh.true refl)

pub returns-else-may_stand : goal.returns-else-may_stand
returns-else-may_stand c =
    let name = c.args.name.now in
    let within : c.loop-byte.byte-index < length name = omega arith in
    sym (c.loop-byte.invariant ∙ parts_byte c.loop-byte.is_fresh name c.loop-byte.byte-index _ within refl c.if-byte-eq47.false ∙ rw (sym c.may_stand.ensures ∙ c.if-may_stand.false) refl)

pub loop-byte-preserved : goal.loop-byte-preserved
loop-byte-preserved c =
    let name = c.args.name.now in
    let within : c.loop-byte.byte-index < length name = omega arith in
    elim c.if-byte-eq47.branch [
      | then-byte-eq47+else-is_fresh w ↦ rw w.is_fresh-is (c.loop-byte.invariant ∙ parts_slash c.loop-byte.is_fresh name c.loop-byte.byte-index _ within refl w.if-byte-eq47.true ∙ rw w.if-is_fresh.false refl)
      | else-byte-eq47+then-may_stand w ↦ rw w.is_fresh-is (c.loop-byte.invariant ∙ parts_byte c.loop-byte.is_fresh name c.loop-byte.byte-index _ within refl w.if-byte-eq47.false ∙ rw (sym w.may_stand.ensures ∙ w.if-may_stand.true) refl)
    ]

pub returns : goal.returns
returns c = sym (c.loop-byte.invariant ∙ parts_end c.loop-byte.is_fresh c.args.name.now c.loop-byte.byte-index (omega arith))
