-- What an instruction leaves, in parts.
use Rattle.std.proofs.Common.{◌≡◌, ℕ, ◌+◌, Bool, true, false, cond, List, length, reverse, drop, Option, Some, None, Ok, Err, Result, refl, sym, ap, ◌∙◌, subst}
use Rattle.std.specs.Prelude.{nat_le, option_and_then, option_map}
use Rattle.std.proofs.lemmas.Bool.{leb-true, le-leb}
use Rattle.jvm_tables.specs.declared.code.CodeFault.{CodeFault}
use Rattle.jvm_tables.specs.declared.code.CodeFault.TheVariants.{FloatOp, UnknownOp, CutShort, BadOperand}
use Rattle.jvm_tables.specs.declared.code.Instr.{Instr}
use Rattle.jvm_tables.specs.declared.instruction.OpRow.{OpRow}
use Rattle.jvm_tables.specs.Decoding.{decoding}
use Rattle.jvm_tables.specs.Opcodes.{row_of}
use Rattle.jvm_tables.proofs.Same.{ends_within}
use Rattle.class_verify.specs.declared.kinds.Kind.{Kind}
use Rattle.class_verify.specs.declared.shape.Shape.{Shape}
use Rattle.class_code.specs.Constants.{Use, use_of}
use Rattle.class_verify.specs.Decoded.{with_row, told, decoded}
use Rattle.class_code.specs.Operands.{local_of}
use Rattle.class_verify.specs.Effects.{used, stack_after, is_read, with_store, locals_after, limited, left}
use Rattle.class_verify.specs.LawsOfInstructions.{IsPlaced, EachIsPlaced, IsLeft, EachLeavesByParts, EachPartIsLeft, IsExchanged, EachExchanges, EachMoves}
use Rattle.class_verify.specs.Places.{length_by, within, next_place}
use Rattle.class_verify.specs.Stacks.{below_values, with_values, moved}

pub each_is_placed : EachIsPlaced
unfolding decoded next_place
each_is_placed code pc instr row e = by_decoding (decoding pc (drop pc code)) refl e
  where
    by_row : (i : Instr) (found : Option OpRow) → decoding pc (drop pc code) ≡ Ok i → row_of i.op ≡ found → with_row i found ≡ Ok (instr, row) → IsPlaced code pc instr row
    by_row i None d r s = cc
    by_row i (Some own) d r s =
        let pairs : (let x : Instr × OpRow = (i, own) in let y : Instr × OpRow = (instr, row) in x ≡ y) = cc in
        subst (λ (x : Instr × OpRow). IsPlaced code pc x.0 x.1) pairs (record {
          own = d;
          place = (ends_within pc (drop pc code) i d).0;
          own_row = r;
          next = ap (λ (o : Result Instr CodeFault). option_and_then (λ (n : ℕ). within code (pc + n)) (length_by o)) d;
        })

    by_decoding : (found : Result Instr CodeFault) → decoding pc (drop pc code) ≡ found → told found ≡ Ok (instr, row) → IsPlaced code pc instr row
    by_decoding (Ok i) d s = by_row i (row_of i.op) d refl s
    by_decoding (Err (FloatOp op)) d s = cc
    by_decoding (Err (UnknownOp op)) d s = cc
    by_decoding (Err CutShort) d s = cc
    by_decoding (Err BadOperand) d s = cc

abbrev shape_with : List Kind → List Kind → Shape
shape_with stack locals = record { stack = stack; locals = locals }

pub each_leaves_by_parts : EachLeavesByParts
unfolding left locals_after
each_leaves_by_parts class most row instr shape after e = by_reads (is_read row.reads (local_of row instr) shape.locals) refl e
  where
    by_room : (locals stack : List Kind) (b : Bool) → is_read row.reads (local_of row instr) shape.locals ≡ true
        → with_store row.writes (local_of row instr) shape.locals ≡ Some locals → stack_after class row instr shape.stack ≡ Some stack → nat_le (length stack) most ≡ b
        → cond b (Some (shape_with stack locals)) None ≡ Some after → IsLeft class most row instr shape after
    by_room locals stack false r w s n f = cc
    by_room locals stack true r w s n f =
        let same : shape_with stack locals ≡ after = cc in
        subst (IsLeft class most row instr shape) same (record { reads = r; writes = w; stack = s; room = leb-true (length stack) most n })

    by_stack : (locals : List Kind) (found : Option (List Kind)) → is_read row.reads (local_of row instr) shape.locals ≡ true
        → with_store row.writes (local_of row instr) shape.locals ≡ Some locals → stack_after class row instr shape.stack ≡ found
        → option_and_then (limited most locals) found ≡ Some after → IsLeft class most row instr shape after
    by_stack locals None r w s f = cc
    by_stack locals (Some stack) r w s f = by_room locals stack (nat_le (length stack) most) r w s refl f

    by_writes : (found : Option (List Kind)) → is_read row.reads (local_of row instr) shape.locals ≡ true → with_store row.writes (local_of row instr) shape.locals ≡ found
        → option_and_then (λ locals. option_and_then (limited most locals) (stack_after class row instr shape.stack)) found ≡ Some after → IsLeft class most row instr shape after
    by_writes None r w f = cc
    by_writes (Some locals) r w f = by_stack locals (stack_after class row instr shape.stack) r w refl f

    by_reads : (b : Bool) → is_read row.reads (local_of row instr) shape.locals ≡ b
        → option_and_then (λ locals. option_and_then (limited most locals) (stack_after class row instr shape.stack)) (cond b (with_store row.writes (local_of row instr) shape.locals) None) ≡ Some after
        → IsLeft class most row instr shape after
    by_reads false r f = cc
    by_reads true r f = by_writes (with_store row.writes (local_of row instr) shape.locals) r refl f

pub each_part_is_left : EachPartIsLeft
unfolding left locals_after
each_part_is_left class most row instr shape after is =
    ap (λ b. option_and_then (λ locals. option_and_then (limited most locals) (stack_after class row instr shape.stack)) (cond b (with_store row.writes (local_of row instr) shape.locals) None)) is.reads
    ∙ ap (option_and_then (λ locals. option_and_then (limited most locals) (stack_after class row instr shape.stack))) is.writes
    ∙ ap (option_and_then (limited most after.locals)) is.stack
    ∙ ap (λ b. cond b (Some (shape_with after.stack after.locals)) None) (le-leb (length after.stack) most is.room)

pub each_exchanges : EachExchanges
unfolding stack_after
each_exchanges class row instr stack after slots e =
    by_use (use_of class row instr) refl (sym (ap (λ b. cond b (moved row.operation stack) (used (use_of class row instr) stack)) slots) ∙ e)
  where
    by_rest : (values : Use) (found : Option (List Kind)) → use_of class row instr ≡ Some values → below_values (reverse values.takes) stack ≡ found
        → option_map (with_values values.gives) found ≡ Some after → IsExchanged class row instr stack after
    by_rest values None u b f = cc
    by_rest values (Some rest) u b f =
        let same : with_values values.gives rest ≡ after = cc in
        record { values = values; told = u; rest = rest; taken = b; given = sym same }

    by_use : (found : Option Use) → use_of class row instr ≡ found → used found stack ≡ Some after → IsExchanged class row instr stack after
    by_use None u f = cc
    by_use (Some values) u f = by_rest values (below_values (reverse values.takes) stack) u refl f

pub each_moves : EachMoves
unfolding stack_after
each_moves class row instr stack after slots e = sym (ap (λ b. cond b (moved row.operation stack) (used (use_of class row instr) stack)) slots) ∙ e
