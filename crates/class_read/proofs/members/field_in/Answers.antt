use Rattle.std.proofs.Common.{refl}
use Rattle.class_model.specs.declared.class_file.Member.{Member}
use Rattle.class_read.proofs.members.field_in.Goals as goal

pub returns-clause-seen : goal.returns-clause-seen
returns-clause-seen c =
    let m : Member = record { flags = c.in_ok-flags.flags; name = c.in_ok-name.name; descriptor = c.in_ok-descriptor.descriptor; attributes = c.in_ok-attributes.attributes } in
    c.in_ok-descriptor.ensures.seen m refl refl
