use Rattle.std.proofs.Common.{◌≡◌, ◌⊎◌, inl, sym, ap, subst, ◌∙◌, Option, Some, None, OnOk, IfErr}
use Rattle.std.specs.Option.{option_copied}
use Rattle.mill_top.specs.declared.build_fault.BuildFault.{BuildFault}
use Rattle.mill_top.specs.declared.build_fault.BuildFault.TheVariants.{NotBuilt, Memory}
use Rattle.mill_top.specs.Graphs.{refusal_of_tasks}
use Rattle.mill_top.proofs.GraphLaws.{place_refused, placed_refusal}
use Rattle.mill_top.proofs.graph.graph_of.Goals as goal

pub returns-in-Some-clause-refused : goal.returns-in-Some-clause-refused
returns-in-Some-clause-refused c =
    inl (place_refused c.args.files.now c.in-Some.file.now (sym c.in-Some.ensures) ∙ ap (λ path. Some (NotBuilt path)) (sym c.in_ok-copy.ensures))

pub returns-clause-accepted : goal.returns-clause-accepted
returns-clause-accepted c =
    let same = placed_refusal c.args.files.now (sym c.first_out_of_place.ensures ∙ ap option_copied c.in_default.is) ∙ ap refusal_of_tasks (sym (c.as_slice.ensures.value ∙ c.in_ok-tasks.ensures)) in
    subst (λ (r : Option BuildFault). OnOk c.graph_of_tasks.result (r ≡ None)) (sym same) c.graph_of_tasks.ensures.accepted

pub returns-clause-refused : goal.returns-clause-refused
returns-clause-refused c =
    let same = placed_refusal c.args.files.now (sym c.first_out_of_place.ensures ∙ ap option_copied c.in_default.is) ∙ ap refusal_of_tasks (sym (c.as_slice.ensures.value ∙ c.in_ok-tasks.ensures)) in
    subst (λ (r : Option BuildFault). IfErr c.graph_of_tasks.result (λ fault. (r ≡ Some fault) ⊎ (fault ≡ Memory))) (sym same) c.graph_of_tasks.ensures.refused
