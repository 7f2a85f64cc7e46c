use Rattle.std.proofs.Common.{◌≡◌, ◌+◌, length, map, List, ℕ, arith, sym, ap, ◌∙◌}
use Rattle.std.proofs.lemmas.List.{length-map}
use Rattle.task_resolve.proofs.MarkLaws.{further, whole}
use Rattle.task_resolve.proofs.matching.next_marks.Goals as goal

pub loop-count-preserved : goal.loop-count-preserved
loop-count-preserved c =
    further c.args.segment.now (map (λ name. name.now) c.args.names.now) c.args.marks.now c.loop-count.next.items c.push.new.self.items c.loop-count.count c.loop-count.last c.next_mark-last.result
    (c.requires ∙ ap (λ n. n + 1) (sym (length-map c.args.names.now (λ name. name.now)))) c.loop-count-test.true c.in_ok-push.ensures.items c.next_mark-last.ensures c.loop-count.invariant

pub returns : goal.returns
returns c =
    let all : c.loop-count.count ≡ length c.args.names.now + 1 = omega (arith, c.requires, c.loop-count-test.false, c.loop-count.auto.count-end) in
    record {
      counted = c.loop-count.invariant.0 ∙ all;
      right = whole c.args.segment.now (map (λ name. name.now) c.args.names.now) c.args.marks.now c.loop-count.next.items c.loop-count.count c.loop-count.last
          (all ∙ ap (λ n. n + 1) (sym (length-map c.args.names.now (λ name. name.now)))) c.loop-count.invariant;
    }
