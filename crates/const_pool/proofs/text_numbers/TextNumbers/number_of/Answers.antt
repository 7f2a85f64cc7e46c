use Rattle.std.proofs.Common.{◌≡◌, Some}
use Rattle.std.specs.BTreeMap.{get}
use Rattle.std.specs.Ordering.{nat_cmp}
use Rattle.class_text.specs.Attributes.{text_or_empty}
use Rattle.const_pool.specs.TextNumbers.{number_by}
use Rattle.const_pool.proofs.EqualTexts.{grown, entered_alone}
use Rattle.const_pool.proofs.text_numbers.TextNumbers.number_of.Goals as goal

pub returns-clause-grows : goal.returns-clause-grows
returns-clause-grows c = λ are.
    let numbers = c.number_of_text.new.numbers in
    let number : number_by numbers (text_or_empty c.args.pool.now c.args.constant) ≡ Some c.in_ok-number.number = rw c.text_or_empty-text.ensures at c.in_ok-number.ensures.number in
    grown c.args.pool.now c.args.self.now (record { by_text = numbers; by_constant = c.insert.new.self }) c.args.constant are
    c.in_ok-number.ensures.kept (rw c.text_or_empty-text.ensures at c.in_ok-number.ensures.added)
    (entered_alone (get nat_cmp c.args.self.now.by_constant) (get nat_cmp c.insert.new.self) (λ constant n. number_by numbers (text_or_empty c.args.pool.now constant) ≡ Some n)
    c.args.constant c.in_ok-number.number number c.in_ok-insert.ensures.updates.0)
