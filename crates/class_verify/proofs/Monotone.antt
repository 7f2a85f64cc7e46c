-- What an instruction leaves of a shape that fits another fits what it leaves of that one.
use Rattle.std.proofs.Common.{◌≡◌, ℕ, ◌≤◌, true, length, sym, subst}
use Rattle.jvm_tables.proofs.Rows.{both}
use Rattle.class_verify.specs.declared.shape.Shape.{Shape}
use Rattle.class_code.specs.Operands.{local_of}
use Rattle.class_verify.specs.Effects.{stack_after, with_store}
use Rattle.class_verify.specs.Kinds.{all_fit}
use Rattle.class_verify.specs.LawsOfInstructions.{IsLeft}
use Rattle.class_verify.specs.LawsOfShapes.{EachIsMonotone}
use Rattle.class_verify.proofs.Lefts.{each_leaves_by_parts, each_part_is_left}
use Rattle.class_verify.proofs.Moves.{stack_matched}
use Rattle.class_verify.proofs.Ordering.{also}
use Rattle.class_verify.proofs.PairedLocals.{as_many, Stored, read_matched, store_matched}
use Rattle.class_verify.proofs.PairedStacks.{Matched}

pub each_is_monotone : EachIsMonotone
each_is_monotone class most row instr shape wanted after f p e =
    let parts : IsLeft class most row instr wanted after = each_leaves_by_parts class most row instr wanted after e in
    let split : (all_fit shape.stack wanted.stack ≡ true) × (all_fit shape.locals wanted.locals ≡ true) = both _ _ f in
    let stack : Matched (stack_after class row instr shape.stack) after.stack = stack_matched class row instr shape.stack wanted.stack after.stack split.0 p parts.stack in
    let locals : Stored (with_store row.writes (local_of row instr) shape.locals) after.locals =
    store_matched row.writes shape.locals wanted.locals after.locals (local_of row instr) split.1 parts.writes in
    let own : Shape = record { stack = stack.stack; locals = locals.locals } in
    let room : length stack.stack ≤ most = subst (λ (n : ℕ). n ≤ most) (sym (as_many stack.stack after.stack stack.fits)) parts.room in
    record {
      own = own;
      leaves = each_part_is_left class most row instr shape own (record {
        reads = read_matched row.reads shape.locals wanted.locals (local_of row instr) split.1 parts.reads;
        writes = locals.is;
        stack = stack.is;
        room = room;
      });
      fits = also (all_fit stack.stack after.stack) (all_fit locals.locals after.locals) stack.fits locals.fits;
      paired = stack.paired;
    }
