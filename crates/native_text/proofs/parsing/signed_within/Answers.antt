use Rattle.std.proofs.Common.{pos, negsuc}
use Rattle.native_model.specs.Texts.{signed_number_of}
use Rattle.native_text.proofs.Digits.{told_least, told_greatest}
use Rattle.native_text.proofs.parsing.signed_within.Goals as goal

pub returns-clause-least : goal.returns-clause-least
returns-clause-least c = told_least (negsuc c.args.most) (pos c.args.most) (signed_number_of c.args.units.now) _ c.signed.ensures

pub returns-clause-greatest : goal.returns-clause-greatest
returns-clause-greatest c = told_greatest (negsuc c.args.most) (pos c.args.most) (signed_number_of c.args.units.now) _ c.signed.ensures
