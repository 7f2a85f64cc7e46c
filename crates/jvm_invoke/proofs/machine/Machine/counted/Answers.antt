use Rattle.std.proofs.Common.{sym, ◌∙◌, ap}
use Rattle.jvm_model.specs.Frames.{counted}
use Rattle.jvm_state.specs.Names.{names}
use Rattle.jvm_invoke.proofs.Stacked.{as_many}
use Rattle.jvm_invoke.proofs.machine.Machine.counted.Goals as goal

pub returns : goal.returns
returns g c =
    let p = c.self.inside.world.names in
    let n = names (g.P.Naming.class_name p) (g.P.Lookups.method_name p) (g.P.Members.field_name p) (g.P.Naming.site_origin p) (g.P.Members.concatenation_at p) in
    c.counted.ensures ∙ sym (as_many n (g.P.Members.initialiser p) c.self.inside.frames) ∙ ap (λ r. counted r.state.frames) c.self.view_is
