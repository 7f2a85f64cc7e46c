use Rattle.std.proofs.Common.{◌≡◌, true, sym, subst, ap, ◌∙◌}
use Rattle.mill_top.specs.Tables.{is_placed, placed}
use Rattle.mill_top.proofs.TableLaws.{is_placed-letters}
use Rattle.mill_top.proofs.graph.Graph.of.Goals as goal

pub invariant_of-result : goal.invariant_of-result
invariant_of-result c = record {
  in_place = subst (λ table. is_placed 97 table ≡ true) (sym c.in_ok-table.ensures) (is_placed-letters c.args.files.now);
  all = c.in_ok-tasks.ensures ∙ ap placed c.as_slice.ensures.value;
}
