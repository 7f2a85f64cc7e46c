use Rattle.std.proofs.Common.{refl, rules}
use Rattle.std.proofs.lemmas.List.Sorted.{IsNonDecreasingBy-from_sort_by_key}
use Rattle.class_verify.proofs.sweep.Sweep.new.Goals as goal

pub returns : goal.returns
returns c = record {
  same = rw c.in_ok-ranges.ensures.items at c.in_ok-sort_by_key.ensures.permutation;
  sorted = IsNonDecreasingBy-from_sort_by_key (λ h. h.start) _ c.in_ok-sort_by_key.ensures.sorted (λ a r q k. search rules);
  begun = refl;
  going = c.new.ensures.items;
  settled = refl;
}
