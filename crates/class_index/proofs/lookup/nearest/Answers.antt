use Rattle.std.proofs.Common.{◌-◌, ◌+◌, length, sym, ◌∙◌, arith}
use Rattle.class_index.specs.Members.{wanted_method}
use Rattle.class_index.proofs.LookupLemmas.{nearest_found, nearest_ends, nearest_on, nearest_none, super_within}
use Rattle.class_index.proofs.lookup.nearest.Goals as goal

pub returns-in-Some : goal.returns-in-Some
returns-in-Some c =
    sym (nearest_found (wanted_method c.args.own c.args.all.now c.args.name.now c.args.descriptor.now c.args.wanted) c.args.supers.now (length c.args.all.now - c.loop.counter) c.loop.place c.in-Some.method
    (omega arith) (sym c.in-Some.ensures)) ∙ c.loop.invariant.1

pub returns : goal.returns
returns c =
    sym (nearest_none (wanted_method c.args.own c.args.all.now c.args.name.now c.args.descriptor.now c.args.wanted) c.args.supers.now (length c.args.all.now - c.loop.counter) c.loop.place (omega arith))
    ∙ c.loop.invariant.1

pub returns-in-None : goal.returns-in-None
returns-in-None c =
    sym (nearest_ends (wanted_method c.args.own c.args.all.now c.args.name.now c.args.descriptor.now c.args.wanted) c.args.supers.now (length c.args.all.now - c.loop.counter) c.loop.place
    (omega arith) (sym c.in_default.ensures) c.in-None.is) ∙ c.loop.invariant.1

pub loop-preserved : goal.loop-preserved
loop-preserved c = (
  super_within (length c.args.all.now) c.args.supers.now c.loop.place c.in-Some-supers.next c.requires.supers (omega arith) c.in-Some-supers.is,
  sym (nearest_on (wanted_method c.args.own c.args.all.now c.args.name.now c.args.descriptor.now c.args.wanted) c.args.supers.now (length c.args.all.now - c.loop.counter)
      (length c.args.all.now - (c.loop.counter + 1)) c.loop.place c.in-Some-supers.next (omega arith) (sym c.in_default.ensures) c.in-Some-supers.is) ∙ c.loop.invariant.1,
)
