use Rattle.std.proofs.Common.{◌≡◌, ◌<◌, ◌++◌, length, get_or, arith}
use Rattle.native_model.specs.Answers.{results}
use Rattle.native_model.specs.Ends.{progress_of}
use Rattle.native_model.specs.Lists.{passed}
use Rattle.list_natives.specs.Kept.{kept_of}
use Rattle.list_natives.proofs.Answered.{passed_on, passed_through}
use Rattle.list_natives.proofs.passing.passed.Goals as goal

pub returns-in_default : goal.returns-in_default
returns-in_default c =
    passed_through c.args.elements.now (results (progress_of c.args.progress.now)) c.loop-at.at c.loop-at.kept.items (passed c.args.elements.now (results (progress_of c.args.progress.now))) c.loop-at.invariant c.in_default.ensures

pub loop-at-preserved : goal.loop-at-preserved
loop-at-preserved c =
    let within : c.loop-at.at < length c.args.elements.now = omega arith in
    let more : c.keep.new.kept.items ≡ c.loop-at.kept.items ++ kept_of c.in-Some.slot (get_or c.args.elements.now c.loop-at.at 0) = c.in_ok-keep.ensures in
    passed_on c.args.elements.now (results (progress_of c.args.progress.now)) c.loop-at.at c.in-Some.slot c.loop-at.kept.items c.keep.new.kept.items (passed c.args.elements.now (results (progress_of c.args.progress.now))) c.loop-at.invariant within c.in-Some.ensures more
