use Rattle.std.proofs.Common.{◌≡◌, ◌⊎◌, Some, None, subst}
use Rattle.mill_top.specs.declared.build_fault.BuildFault.TheVariants.{Memory}
use Rattle.mill_top.specs.Graphs.{build_graph, refusal_of_build}
use Rattle.mill_top.proofs.AnswerLaws.{chosen_plan, unplanned, refused_build}
use Rattle.mill_top.proofs.top.choose.Goals as goal

pub returns-in-Ok-clause-ok : goal.returns-in-Ok-clause-ok
returns-in-Ok-clause-ok c =
    let accepted = subst (λ files. refusal_of_build files ≡ None) c.as_slice.ensures.files c.in-Ok.ensures.accepted in
    let graph = subst (λ files. c.in-Ok.graph ≡ build_graph files) c.as_slice.ensures.files c.in-Ok.ensures.graph in
    chosen_plan (λ planned. planned.items) c.args.inputs.now c.args.task.now c.in-Ok.graph c.plan_of.result accepted graph c.plan_of.ensures.known c.plan_of.ensures.plan

pub returns-in-Ok-clause-err : goal.returns-in-Ok-clause-err
returns-in-Ok-clause-err c =
    let accepted = subst (λ files. refusal_of_build files ≡ None) c.as_slice.ensures.files c.in-Ok.ensures.accepted in
    let graph = subst (λ files. c.in-Ok.graph ≡ build_graph files) c.as_slice.ensures.files c.in-Ok.ensures.graph in
    unplanned c.args.inputs.now c.args.task.now c.in-Ok.graph c.plan_of.result accepted graph c.plan_of.ensures.err

pub returns-in-Err-clause-err : goal.returns-in-Err-clause-err
returns-in-Err-clause-err c =
    let refused = subst (λ files. (refusal_of_build files ≡ Some c.in-Err.fault) ⊎ (c.in-Err.fault ≡ Memory)) c.as_slice.ensures.files c.in-Err.ensures.refused in
    refused_build c.args.inputs.now c.args.task.now c.in-Err.fault c.build_reply.result c.build_reply.ensures refused
