use Rattle.std.proofs.Common.{◌≡◌, length, rules}
use Rattle.class_index.specs.Hierarchy.{id_of}
use Rattle.class_index.proofs.Inherits.{id_is_class}
use Rattle.class_index.proofs.index.Index.id.Goals as goal

pub returns-clause-there : goal.returns-clause-there
returns-clause-there c =
    let value : c.class_at.result ≡ id_of (length c.args.self.now) c.args.place = search rules in
    rw value (id_is_class c.args.self.now c.args.place c.requires)
