use Rattle.std.proofs.Common.{refl}
use Rattle.class_write.proofs.MemberLemmas.{not_back}
use Rattle.class_write.proofs.members.enter.Goals as goal

pub returns-clause-double : goal.returns-clause-double
returns-clause-double c = λ before seen. not_back _ _ (c.in_ok-added.ensures.added before c.args.member.now refl refl seen)

pub returns-clause-seen : goal.returns-clause-seen
returns-clause-seen c = λ before seen. c.in_ok-added.ensures.seen before c.args.member.now refl refl seen
