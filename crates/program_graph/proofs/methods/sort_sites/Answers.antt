use Rattle.std.proofs.Common.{rules, is_lt}
use Rattle.std.proofs.lemmas.Cmp.{nat_list_cmp_total, on_total, then_total}
use Rattle.std.proofs.lemmas.Fn.{always_returns_same}
use Rattle.std.proofs.lemmas.Result.{on_ok_weaker}
use Rattle.std.proofs.lemmas.List.Sorted.{IsPermutation-map, ranks_by}
use Rattle.std.specs.Cmp.{IsTotalOrder}
use Rattle.class_model.specs.Shape.{class_name, name_text, descriptor_text}
use Rattle.task_annotations.specs.Sites.{Site}
use Rattle.task_annotations.specs.Reading.{site_read}
use Rattle.program_graph.specs.Methods.{by_class, by_name, by_descriptor, site_cmp}
use Rattle.program_graph.proofs.NameOrder.{sorted_map}
use Rattle.program_graph.proofs.methods.sort_sites.Goals as goal

site-total : IsTotalOrder site_cmp
site-total =
    let classes : IsTotalOrder by_class = on_total (λ (s : Site). class_name s.class) nat_list_cmp_total in
    let names : IsTotalOrder by_name = on_total (λ (s : Site). name_text s.class.pool s.method) nat_list_cmp_total in
    let descriptors : IsTotalOrder by_descriptor = on_total (λ (s : Site). descriptor_text s.class.pool s.method) nat_list_cmp_total in
    then_total classes (then_total names descriptors)

pub returns : goal.returns
returns c =
    on_ok_weaker c.sort_by.result
    (λ sorted. record {
      same = IsPermutation-map site_read c.args.sites.now.items c.sort_by.new.self.items c.sort_by.ensures.permutation;
      sorted = sorted_map site_cmp site_read c.sort_by.new.self.items
          (sorted (λ a b. is_lt (site_cmp (site_read a) (site_read b))) (ranks_by site-total site_read) (always_returns_same _ _ _ (λ a r f called. search rules)));
    })
    c.sort_by.ensures.sorted
