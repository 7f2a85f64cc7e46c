use Rattle.std.proofs.Common.{rules, is_lt}
use Rattle.std.proofs.lemmas.Cmp.{nat_list_cmp_total}
use Rattle.std.proofs.lemmas.Fn.{always_returns_same}
use Rattle.std.proofs.lemmas.Result.{on_ok_weaker}
use Rattle.std.proofs.lemmas.List.Sorted.{IsPermutation-map, ranks_by}
use Rattle.program_graph.specs.Methods.{text_cmp}
use Rattle.program_graph.specs.Tasks.{name_of}
use Rattle.program_graph.specs.Reading.{task_read}
use Rattle.program_graph.proofs.NameOrder.{sorted_map}
use Rattle.program_graph.proofs.doubles.sort_tasks.Goals as goal

pub returns-clause-same : goal.returns-clause-same
returns-clause-same c = IsPermutation-map task_read c.args.tasks.now.items c.sort_by.new.self.items c.sort_by.ensures.permutation

pub returns-clause-sorted : goal.returns-clause-sorted
returns-clause-sorted c =
    on_ok_weaker c.sort_by.result
    (λ sorted. sorted_map (λ t u. text_cmp (name_of t) (name_of u)) task_read c.sort_by.new.self.items
    (sorted (λ a b. is_lt (text_cmp (name_of (task_read a)) (name_of (task_read b)))) (ranks_by nat_list_cmp_total (λ a. name_of (task_read a)))
    (always_returns_same _ _ _ (λ a r f called. search rules))))
    c.sort_by.ensures.sorted
