use Rattle.std.proofs.Common.{◌∷◌, length}
use Rattle.native_model.specs.Answers.{results}
use Rattle.native_model.specs.Ends.{progress_of}
use Rattle.native_model.specs.Lists.{element_texts, with_commas}
use Rattle.list_natives.specs.Told.{texts_told}
use Rattle.list_natives.proofs.Listed.{told_on, taken_few}
use Rattle.list_natives.proofs.telling.elements_told.Goals as goal

pub each-preserved : goal.each-preserved
each-preserved g c = record {
  told = told_on c.args.world.now.world c.in-Some.first.now c.in-Some.behind.now (results (progress_of c.args.progress.now)) c.each.next (0x5b ∷ with_commas (element_texts c.args.elements.now (texts_told c.args.world.now.world (results (progress_of c.args.progress.now))))) c.each.units.items c.push_element.new.units.items c.push_separator.new.units.items c.each.rest.now _ _ c.in-Some.ensures.cases.0 c.result_at.ensures c.taken-next.ensures c.each.invariant.told c.in_ok-push_element.ensures c.in_ok-push_separator.ensures;
  few = taken_few c.in-Some.first.now c.in-Some.behind.now c.each.next (length c.args.elements.now) c.each.rest.now _ c.in-Some.ensures.cases.0 c.taken-next.ensures c.each.invariant.few;
}
