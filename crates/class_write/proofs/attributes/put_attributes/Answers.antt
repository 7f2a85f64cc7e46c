use Rattle.class_write.proofs.AttributeLemmas.{attribute_names_once}
use Rattle.class_write.proofs.attributes.put_attributes.Goals as goal

pub returns-clause-shaped : goal.returns-clause-shaped
returns-clause-shaped c = record {
  each = c.in_ok-write_counted.ensures.shaped;
  once = attribute_names_once c.args.pool.now c.args.stand.holder c.args.stand.descriptor.now c.args.stand.bare c.args.list.now c.in_ok-write_counted.ensures.none;
}
