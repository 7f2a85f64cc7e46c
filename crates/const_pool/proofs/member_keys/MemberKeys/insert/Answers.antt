use Rattle.std.proofs.Common.{refl}
use Rattle.const_pool.specs.SeenMembers.{Key}
use Rattle.const_pool.proofs.EqualTexts.{grows_on}
use Rattle.const_pool.proofs.SeenMembers.{asked, seen_more, seen_already, seen_still, on_err}
use Rattle.const_pool.proofs.member_keys.MemberKeys.insert.Goals as goal

pub returns-in_err-name-clause-same : goal.returns-in_err-name-clause-same
returns-in_err-name-clause-same c = λ before has.
    on_err c.from_residual.result _
    (seen_still c.args.pool.now before c.args.self.now (record { numbers = c.number_of.new.self; seen = c.args.self.now.seen }) (c.in_err-name.ensures.grows has.numbers) (λ q. refl) has)

pub returns-in_err-descriptor-clause-same : goal.returns-in_err-descriptor-clause-same
returns-in_err-descriptor-clause-same c = λ before has.
    let name = c.in_ok-name.ensures.grows has.numbers in
    let descriptor = c.in_err-descriptor.ensures.grows name.numbers in
    on_err c.from_residual-in_err-descriptor.result _
    (seen_still c.args.pool.now before c.args.self.now (record { numbers = c.number_of-2.new.self; seen = c.args.self.now.seen })
    (grows_on c.args.pool.now c.args.self.now.numbers c.number_of.new.self c.number_of-2.new.self name descriptor) (λ q. refl) has)

pub returns-in_err-insert-clause-same : goal.returns-in_err-insert-clause-same
returns-in_err-insert-clause-same c = λ before has.
    let name = c.in_ok-name.ensures.grows has.numbers in
    let descriptor = c.in_ok-descriptor.ensures.grows name.numbers in
    on_err c.from_residual-in_err-insert.result _
    (seen_still c.args.pool.now before c.args.self.now (record { numbers = c.number_of-2.new.self; seen = c.insert.new.self })
    (grows_on c.args.pool.now c.args.self.now.numbers c.number_of.new.self c.number_of-2.new.self name descriptor) (λ q. rw c.in_err-insert.ensures.err refl) has)

pub returns-clause-added : goal.returns-clause-added
returns-clause-added c = λ before m n d has.
    let name = c.in_ok-name.ensures.grows has.numbers in
    let descriptor = c.in_ok-descriptor.ensures.grows name.numbers in
    let key : Key = (c.in_ok-name.name, c.in_ok-descriptor.descriptor) in
    seen_already c.args.pool.now before m c.args.name c.args.descriptor key c.args.self.now c.number_of-2.new.self c.in_ok-insert.field-0
    (asked c.args.pool.now c.args.name c.args.descriptor key c.args.self.now.numbers c.number_of.new.self c.number_of-2.new.self name descriptor
    (c.in_ok-name.ensures.number has.numbers) (c.in_ok-descriptor.ensures.number name.numbers))
    n d c.in_ok-insert.ensures.added has

pub returns-clause-seen : goal.returns-clause-seen
returns-clause-seen c = λ before m n d has.
    let name = c.in_ok-name.ensures.grows has.numbers in
    let descriptor = c.in_ok-descriptor.ensures.grows name.numbers in
    let key : Key = (c.in_ok-name.name, c.in_ok-descriptor.descriptor) in
    seen_more c.args.pool.now before m c.args.name c.args.descriptor key c.args.self.now (record { numbers = c.number_of-2.new.self; seen = c.insert.new.self })
    (asked c.args.pool.now c.args.name c.args.descriptor key c.args.self.now.numbers c.number_of.new.self c.number_of-2.new.self name descriptor
    (c.in_ok-name.ensures.number has.numbers) (c.in_ok-descriptor.ensures.number name.numbers))
    n d c.in_ok-insert.ensures.updates.0 has
