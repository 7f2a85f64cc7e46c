use Rattle.std.proofs.Common.{◌<◌, ◌≤◌, Some, [], arith, ap, ◌∙◌, length}
use Rattle.std.proofs.lemmas.List.{take_all}
use Rattle.out_entry.proofs.Members.{file_at, length-files, taken_more}
use Rattle.out_entry.proofs.decode.files_of_items.Goals as goal

pub returns-in-None : goal.returns-in-None
returns-in-None c files valid all =
    let k = c.loop-item.item-index in
    let within : k < length files = omega (arith, c.loop-item-test.true, length-files c.args.items.now files all) in
    let is = file_at c.args.items.now files k c.item-item.result ([], []) all c.loop-item-test.true c.item-item.is in
    let found = rw c.in-None.is at c.in_ok-file.ensures _ (valid k ([], []) within) is in
    absurd (cc)

pub loop-item-preserved : goal.loop-item-preserved
loop-item-preserved c files valid all =
    let k = c.loop-item.item-index in
    let file = c.in-Some.file in
    let within : k < length files = omega (arith, c.loop-item-test.true, length-files c.args.items.now files all) in
    let is = file_at c.args.items.now files k c.item-item.result file all c.loop-item-test.true c.item-item.is in
    let found = rw c.in-Some.is at c.in_ok-file.ensures _ (valid k file within) is in
    c.in_ok-push-in-Some.ensures.items ∙ taken_more files c.loop-item.files.items k file (c.loop-item.invariant files valid all) (cc) within

pub returns : goal.returns
returns c files valid all =
    let k = c.loop-item.item-index in
    let past : length files ≤ k = omega (arith, c.loop-item-test.false, length-files c.args.items.now files all) in
    ap Some (c.from_vec.ensures ∙ c.loop-item.invariant files valid all ∙ take_all k files past)
