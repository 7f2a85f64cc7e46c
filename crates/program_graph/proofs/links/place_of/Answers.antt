use Rattle.std.proofs.Common.{rules}
use Rattle.std.proofs.lemmas.Cmp.{nat_list_cmp_total}
use Rattle.std.proofs.lemmas.Fn.{always_returns_same}
use Rattle.std.proofs.lemmas.List.Sorted.{searchable_from_sorted}
use Rattle.program_graph.specs.Methods.{text_cmp}
use Rattle.program_graph.specs.Tasks.{name_of}
use Rattle.program_graph.specs.Reading.{task_read}
use Rattle.program_graph.proofs.NameOrder.{sorted_unmap}
use Rattle.program_graph.proofs.Places.{place_found, place_missed}
use Rattle.program_graph.proofs.links.place_of.Goals as goal

pub returns-in-Ok-clause-place : goal.returns-in-Ok-clause-place
returns-in-Ok-clause-place c =
    let here = c.in-Ok.ensures.position (λ t. text_cmp t.declaration.name.now c.args.name.now) (always_returns_same _ _ _ (λ a r f called. search rules)) in
    place_found task_read name_of c.args.name.now c.args.tasks.now c.in-Ok.place c.in-Ok.ensures.bound here c.requires.distinct

pub returns-in-Err-clause-place : goal.returns-in-Err-clause-place
returns-in-Err-clause-place c =
    let gap = c.in-Err.ensures.position (λ t. text_cmp t.declaration.name.now c.args.name.now) (always_returns_same _ _ _ (λ a r f called. search rules)) in
    place_missed task_read name_of c.args.name.now c.args.tasks.now c.in-Err.field-0
    (gap (searchable_from_sorted nat_list_cmp_total (λ t. name_of (task_read t)) c.args.tasks.now c.args.name.now
    (sorted_unmap (λ t u. text_cmp (name_of t) (name_of u)) task_read c.args.tasks.now c.requires.sorted)))
