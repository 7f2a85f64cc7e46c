use Rattle.std.proofs.Common.{◌≡◌, Some, rules}
use Rattle.class_index.specs.Resolution.{resolve_field}
use Rattle.class_index.proofs.Inherits.{resolved_field_there}
use Rattle.class_index.proofs.index.Index.resolve_field.Goals as goal

pub returns-clause-there : goal.returns-clause-there
returns-clause-there c =
    let value : Some c.member_of.result ≡ resolve_field c.args.self.now c.args.owner.now c.args.name.now c.args.descriptor.now = search rules in
    resolved_field_there c.args.self.now c.args.owner.now c.args.name.now c.args.descriptor.now c.member_of.result value
