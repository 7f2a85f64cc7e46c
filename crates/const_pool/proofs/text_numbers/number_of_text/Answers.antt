use Rattle.std.proofs.Common.{Some, sym}
use Rattle.std.proofs.lemmas.Map.Text.{btree_map_updates_str}
use Rattle.const_pool.specs.TextNumbers.{number_by}
use Rattle.const_pool.proofs.EqualTexts.{kept_beside, added_alone}
use Rattle.const_pool.proofs.text_numbers.number_of_text.Goals as goal

pub returns-clause-kept : goal.returns-clause-kept
returns-clause-kept c =
    kept_beside (number_by c.args.numbers.now) (number_by c.insert.new.self) c.args.text.now c.args.fresh (sym c.in_default.ensures.value)
    (btree_map_updates_str c.args.text.now c.args.numbers.now c.insert.new.self (Some c.args.fresh) c.in_ok-insert.ensures.updates)

pub returns-clause-added : goal.returns-clause-added
returns-clause-added c =
    added_alone (number_by c.args.numbers.now) (number_by c.insert.new.self) c.args.text.now c.args.fresh
    (btree_map_updates_str c.args.text.now c.args.numbers.now c.insert.new.self (Some c.args.fresh) c.in_ok-insert.ensures.updates)
