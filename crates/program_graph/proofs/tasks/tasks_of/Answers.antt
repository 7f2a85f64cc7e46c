use Rattle.std.proofs.Common.{◌≡◌, ◌<◌, ◌∷◌, [], ◌++◌, map, take, length, All, sym, ◌∙◌, ap, subst, arith}
use Rattle.std.proofs.lemmas.List.Elements.{All-push}
use Rattle.class_model.specs.Shape.{Shaped, IsMethod}
use Rattle.task_annotations.specs.Sites.{Site}
use Rattle.task_annotations.specs.Reading.{site_read, sites_read}
use Rattle.program_graph.specs.Tasks.{Task, IsAccepted}
use Rattle.program_graph.specs.Reading.{task_read, tasks_read}
use Rattle.program_graph.proofs.NameOrder.{at-read, get-map, length-map, take-map, map-push, next-taken}
use Rattle.program_graph.proofs.Refusals.{first_refused}
use Rattle.program_graph.proofs.tasks.tasks_of.Goals as goal

pub task_of-requires-clause-class : goal.task_of-requires-clause-class
task_of-requires-clause-class c =
    (at-read (λ (s : Site). Shaped s.class × IsMethod s.class.pool s.method) site_read c.args.sites.now c.loop-at.at c.index-sites-at.result c.requires (omega (arith, c.loop-at-test.true)) c.index-sites-at.is).0

pub task_of-requires-clause-method : goal.task_of-requires-clause-method
task_of-requires-clause-method c =
    (at-read (λ (s : Site). Shaped s.class × IsMethod s.class.pool s.method) site_read c.args.sites.now c.loop-at.at c.index-sites-at.result c.requires (omega (arith, c.loop-at-test.true)) c.index-sites-at.is).1

pub returns-in-Err-clause-fault : goal.returns-in-Err-clause-fault
returns-in-Err-clause-fault c some =
    let below : c.loop-at.at < length (sites_read c.args.sites.now) = omega (arith, c.loop-at-test.true, length-map site_read c.args.sites.now) in
    first_refused (tasks_read c.loop-at.tasks.items) (sites_read c.args.sites.now) c.loop-at.at (site_read c.index-sites-at.result) c.in-Err.fault
    c.loop-at.invariant.0 (c.loop-at.invariant.1 ∙ take-map site_read c.loop-at.at c.args.sites.now) below
    (ap site_read c.index-sites-at.is ∙ sym (get-map site_read c.args.sites.now c.loop-at.at c.index-sites-at.result))
    (c.in-Err.ensures.fault some)

pub loop-at-preserved : goal.loop-at-preserved
loop-at-preserved c =
    let old = c.loop-at.tasks.items in
    let t = c.in-Ok.task in
    let pushed : tasks_read c.push_task.new.tasks.items ≡ tasks_read old ++ task_read t ∷ [] = ap tasks_read c.in_ok-push_task-in-Ok.ensures ∙ map-push task_read old t in (
      subst (All IsAccepted) (sym pushed) (All-push IsAccepted (tasks_read old) (task_read t) c.loop-at.invariant.0 c.in-Ok.ensures.accepted),
      ap (map (λ (t : Task). t.site)) pushed ∙ map-push (λ (t : Task). t.site) (tasks_read old) (task_read t)
          ∙ ap (λ ss. ss ++ site_read t.site ∷ []) c.loop-at.invariant.1
          ∙ ap (λ s. sites_read (take c.loop-at.at c.args.sites.now) ++ site_read s ∷ []) c.in-Ok.ensures.site
          ∙ sym (next-taken site_read c.args.sites.now c.loop-at.at c.index-sites-at.result (omega (arith, c.loop-at-test.true)) c.index-sites-at.is),
    )
