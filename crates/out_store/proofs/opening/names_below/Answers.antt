use Rattle.std.proofs.Common.{rules, ◌≡◌, ◌≤◌, ℕ, List, drop, take, length, true, false, sym, ap, nat_eq, subst, ◌∙◌}
use Rattle.std.specs.List.{starts_with}
use Rattle.std.proofs.Math.Seq.{take-length}
use Rattle.std.specs.List.Sorted.{IsPartitionPoint, IsPartitionedBy}
use Rattle.std.proofs.lemmas.List.Sorted.{IsPartitionPoint-from_clause}
use Rattle.out_store.specs.Opened.{AreBelow}
use Rattle.out_store.proofs.NamesBelow.{is_before, is_in, before_parted, in_parted, in_order_drop, rest_later, are_below}
use Rattle.out_store.proofs.opening.names_below.Goals as goal

pub returns : goal.returns
returns c =
    let folder : List ℕ = c.args.folder.now in
    let xs : List (List ℕ) = c.args.listed.now in
    let from : ℕ = c.partition_point-from.result in
    let count : ℕ = c.partition_point-count.result in
    let some : from ≤ length xs = c.partition_point-from.ensures.bound in
    let rest : c.split_at.result.1.now ≡ drop from xs = c.split_at.ensures.back in
    let first : IsPartitionPoint (λ y. is_before folder y ≡ true) (λ y. is_before folder y ≡ false) xs from =
    IsPartitionPoint-from_clause (is_before folder) xs from c.partition_point-from.ensures.partitioned (before_parted folder xs c.requires) (λ a r q k. search rules) in
    let second : IsPartitionPoint (λ y. is_in folder y ≡ true) (λ y. is_in folder y ≡ false) (drop from xs) count =
    subst (λ (ys : List (List ℕ)). IsPartitionPoint (λ y. is_in folder y ≡ true) (λ y. is_in folder y ≡ false) ys count) rest
    (IsPartitionPoint-from_clause (is_in folder) c.split_at.result.1.now count c.partition_point-count.ensures.partitioned
    (subst (IsPartitionedBy (is_in folder)) (sym rest) (in_parted folder (drop from xs) (in_order_drop from xs c.requires) (rest_later folder xs from some first)))
    (λ a r q k. (
      let tested : r ≡ starts_with nat_eq a.0.now (take (length folder) folder) = search rules in tested ∙ ap (starts_with nat_eq a.0.now) (take-length folder),
      search rules,
    ))) in
    let more : count ≤ length (drop from xs) = subst (λ (ys : List (List ℕ)). count ≤ length ys) rest c.partition_point-count.ensures.bound in
    subst (AreBelow folder xs) (sym (c.split_at-2.ensures.front ∙ ap (take count) rest))
    (are_below folder xs from count c.requires some more first second)
