use Rattle.std.proofs.Common.{◌≤◌, sym, ◌∙◌, ap, arith}
use Rattle.class_model.specs.TypeForms.{wrapped}
use Rattle.class_model.proofs.Dimensions.{wrapped-none, wrapped-component}
use Rattle.class_model.proofs.descriptor_text.array_in.Goals as goal

pub returns-in_err-found : goal.returns-in_err-found
returns-in_err-found c = rw (c.from_residual.ensures, ← c.in_err-found.ensures.shown) (sym (wrapped-none c.args.dimensions))

pub returns : goal.returns
returns c =
    let few : c.args.dimensions ≤ 255 = omega arith in
    sym (ap (wrapped c.args.dimensions) (sym c.in_ok-found.ensures.shown) ∙ wrapped-component c.args.dimensions c.in_ok-found.found c.in_ok-found.rest.now few)
