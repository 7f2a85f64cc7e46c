use Rattle.std.proofs.Common.{◌≡◌, Some, None, sym, ◌∙◌, ap, subst}
use Rattle.std.specs.Option.{option_copied}
use Rattle.std.proofs.lemmas.Result.{IfOk-weaker}
use Rattle.class_index.specs.Least.{IsLeast, least_from}
use Rattle.class_index.specs.Supers.{Returns, marked_names}
use Rattle.class_index.proofs.PlaceLemmas.{length-hierarchy}
use Rattle.class_index.proofs.Returning.{least_returns, some_least}
use Rattle.class_index.proofs.index.returning_name.Goals as goal

pub least_marked-least-requires : goal.least_marked-least-requires
least_marked-least-requires c = sym (c.requires.marks.all ∙ length-hierarchy c.args.all.now)

pub unwrap-requires : goal.unwrap-requires
unwrap-requires c = some_least c.args.all.now c.args.marks.now c.requires.some.0 c.least_marked-least.result c.requires.marks c.requires.some.1 c.least_marked-least.ensures

pub returns : goal.returns
returns c =
    let name = c.unwrap.result.now in
    let is : least_from None (marked_names c.args.all.now c.args.marks.now) ≡ Some name = sym c.least_marked-least.ensures ∙ ap option_copied c.unwrap.ensures in
    let least : IsLeast (Returns c.args.all.now) name = least_returns c.args.all.now c.args.marks.now name c.requires.marks is in
    IfOk-weaker c.copy_of.result (λ copy. copy ≡ name) (IsLeast (Returns c.args.all.now)) (λ copy e. subst (IsLeast (Returns c.args.all.now)) (sym e) least) c.copy_of.ensures
