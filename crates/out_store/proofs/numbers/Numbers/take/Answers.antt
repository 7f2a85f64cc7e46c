use Rattle.std.proofs.Common.{◌≡◌, ◌<◌, ◌^◌, ℕ, List, Some, cond, subst}
use Rattle.std.specs.BTreeMap.{get}
use Rattle.std.specs.Ordering.{eq_by_cmp}
use Rattle.tree_value.specs.Trees.{path_cmp}
use Rattle.out_store.specs.Numbers.{IsNextBehind}
use Rattle.out_store.proofs.NumberLaws.{next_behind, takes}
use Rattle.out_store.proofs.numbers.Numbers.take.Goals as goal

pub returns-clause-next : goal.returns-clause-next
returns-clause-next c =
    let behind : IsNextBehind c.last_taken-last.result c.opening-opening.result c.in-Some.number = rw c.in-Some.is at c.next_number.ensures.next in
    let small : c.in-Some.number < 2 ^ 32 = rw c.in-Some.is at c.next_number.ensures.small in
    next_behind c.args.self.now c.args.task.now c.in-Some.number c.last_taken-last.result c.last_taken-last.ensures small c.opening-opening.result c.opening-opening.ensures behind

pub returns-clause-used : goal.returns-clause-used
returns-clause-used c =
    let behind : IsNextBehind c.last_taken-last.result c.opening-opening.result c.in-Some.number = rw c.in-Some.is at c.next_number.ensures.next in
    let small : c.in-Some.number < 2 ^ 32 = rw c.in-Some.is at c.next_number.ensures.small in
    let next = next_behind c.args.self.now c.args.task.now c.in-Some.number c.last_taken-last.result c.last_taken-last.ensures small c.opening-opening.result c.opening-opening.ensures behind in
    takes c.args.self.now c.set_taken.new.self c.args.task.now c.in-Some.number next c.set_taken.ensures.opening
    (subst (λ (k : List ℕ). (t : List ℕ) → get path_cmp c.set_taken.new.self.taken t ≡ cond (eq_by_cmp path_cmp k t) (Some c.in-Some.number) (get path_cmp c.args.self.now.taken t)) c.in_ok-copy.ensures c.in_ok-set_taken.ensures.taken)
