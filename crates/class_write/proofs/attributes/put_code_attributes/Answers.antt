use Rattle.std.proofs.Common.{[]}
use Rattle.class_write.proofs.AttributeLemmas.{all_under, code_names_once}
use Rattle.class_write.proofs.ContentLemmas.{code_place}
use Rattle.class_write.proofs.attributes.put_code_attributes.Goals as goal

pub returns-clause-shaped : goal.returns-clause-shaped
returns-clause-shaped c =
    rw (← code_place c.args.holder [] c.requires) (record {
      each = (c.in_ok-write_counted.ensures.shaped.0, all_under _ _ c.args.list.now c.requires c.in_ok-write_counted.ensures.shaped.1);
      once = code_names_once c.args.pool.now c.args.holder c.args.list.now c.in_ok-write_counted.ensures.none;
    })
