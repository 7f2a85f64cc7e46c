use Rattle.std.proofs.Common.{◌++◌, map, take, option_map, slice_get, sym, ◌∙◌, ap, append_assoc, arith}
use Rattle.std.specs.Option.{option_to_list}
use Rattle.jvm_tables.specs.Externals.{externals}
use Rattle.class_index.specs.Outlines.{outer_outline}
use Rattle.class_index.proofs.Outers.{row_more, all_rows}
use Rattle.class_index.proofs.index.add_external.Goals as goal

pub loop-row-preserved : goal.loop-row-preserved
loop-row-preserved c =
    c.in_ok-add_row.ensures ∙ ap (λ xs. xs ++ option_to_list (option_map outer_outline (slice_get externals c.loop-row.row))) c.loop-row.invariant
    ∙ append_assoc c.args.all.now (map outer_outline (take c.loop-row.row externals)) (option_to_list (option_map outer_outline (slice_get externals c.loop-row.row)))
    ∙ sym (ap (λ ys. c.args.all.now ++ ys) (row_more c.loop-row.row))

pub returns : goal.returns
returns c = c.loop-row.invariant ∙ all_rows c.args.all.now c.loop-row.row (omega arith)
