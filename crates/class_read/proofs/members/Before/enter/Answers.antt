use Rattle.std.proofs.Common.{not, [], refl, ap, ◌∙◌}
use Rattle.class_model.specs.declared.class_file.Member.{Member}
use Rattle.class_text.specs.Attributes.{is_first}
use Rattle.class_text.specs.Classes.{is_new}
use Rattle.class_read.proofs.Entered.{same_back}
use Rattle.class_read.proofs.members.Before.enter.Goals as goal

pub returns-clause-first : goal.returns-clause-first
unfolding is_new is_first
returns-clause-first c =
    let m : Member = record { flags = 0; name = c.args.name; descriptor = c.args.descriptor; attributes = [] } in
    rw (← c.as_pool.ensures)
    (c.in_ok-first.ensures.added c.args.self.now.list m refl refl (rw c.as_pool.ensures c.requires) ∙ ap not (same_back c.as_pool.result.now c.args.self.now.list m))

pub returns-clause-seen : goal.returns-clause-seen
returns-clause-seen c = λ m name descriptor.
    rw (← c.as_pool.ensures) (c.in_ok-first.ensures.seen c.args.self.now.list m name descriptor (rw c.as_pool.ensures c.requires))
