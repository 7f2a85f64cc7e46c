use Rattle.std.proofs.Common.{◌≡◌, ◌<◌, ◌≤◌, length, get_or, sym, ◌∙◌, arith}
use Rattle.const_pool.proofs.Places.{wrong_there, right_there, length_there, none_there}
use Rattle.const_pool.proofs.pool_reader.wrong_in.Goals as goal

pub returns-then-not-has_targets : goal.returns-then-not-has_targets
returns-then-not-has_targets c =
    let cs = c.args.pool.now.constants in
    let within : c.loop-constant.constant-index < length cs = rw (← c.as_slice-constant-items.ensures) c.loop-constant-test.true in
    let is : c.constant-item.result ≡ get_or cs c.loop-constant.constant-index c.constant-item.result = rw (← c.as_slice-constant-items.ensures) c.constant-item.is in
    wrong_there c.args.pool.now c.loop-constant.place c.loop-constant.constant-index cs c.constant-item.result within is c.if-not-has_targets.ensures ∙ sym c.loop-constant.invariant.0

pub loop-constant-preserved : goal.loop-constant-preserved
loop-constant-preserved c =
    let cs = c.args.pool.now.constants in
    let within : c.loop-constant.constant-index < length cs = rw (← c.as_slice-constant-items.ensures) c.loop-constant-test.true in
    let is : c.constant-item.result ≡ get_or cs c.loop-constant.constant-index c.constant-item.result = rw (← c.as_slice-constant-items.ensures) c.constant-item.is in (
      c.loop-constant.invariant.0 ∙ right_there c.args.pool.now c.loop-constant.place c.loop-constant.constant-index cs c.constant-item.result c.length_of-place.result within is c.if-not-has_targets.ensures c.length_of-place.ensures,
      omega (arith, c.loop-constant.invariant.1, length_there c.loop-constant.constant-index cs c.constant-item.result within is, c.length_of-place.ensures),
    )

pub returns : goal.returns
returns c =
    let cs = c.args.pool.now.constants in
    let past : length cs ≤ c.loop-constant.constant-index = rw (← c.as_slice-constant-items.ensures) c.loop-constant-test.false in
    none_there c.args.pool.now c.loop-constant.place c.loop-constant.constant-index cs past ∙ sym c.loop-constant.invariant.0
