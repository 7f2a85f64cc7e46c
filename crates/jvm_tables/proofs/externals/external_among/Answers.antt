use Rattle.std.proofs.Common.{◌∙◌, ap, sym, Some}
use Rattle.std.proofs.lemmas.Option.{slice_get-get_or}
use Rattle.jvm_tables.proofs.Places.{row_there, row_past}
use Rattle.jvm_tables.specs.Externals.{stated}
use Rattle.jvm_tables.proofs.externals.external_among.Goals as goal

pub returns-then-place-rows : goal.returns-then-place-rows
returns-then-place-rows c =
    ap Some c.external_row.ensures ∙ sym (row_there stated c.args.rows.now c.args.at _ (slice_get-get_or c.args.rows.now c.args.at _ c.if-place-rows.true))

pub returns-else-place-rows : goal.returns-else-place-rows
returns-else-place-rows c = sym (row_past stated c.args.rows.now c.args.at c.if-place-rows.false)
