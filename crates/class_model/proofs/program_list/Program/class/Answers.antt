use Rattle.std.proofs.Common.{Some, None, sym, ◌∙◌, ap, subst, option_copied, length}
use Rattle.class_model.specs.Programs.{FoundAmong, find_class}
use Rattle.class_model.proofs.ProgramLemmas.{found_class, no_class}
use Rattle.class_model.proofs.program_list.Program.class.Goals as goal

pub returns-in_err-place : goal.returns-in_err-place
returns-in_err-place c =
    let inside = c.self.inside.classes.items in
    let none : FoundAmong inside (length inside) c.args.name.now None = subst (FoundAmong inside (length inside) c.args.name.now) (sym c.in_err-place.ensures.value) (c.self.invariant.1 c.args.name.now) in
    ap option_copied c.from_residual.ensures ∙ sym (no_class inside c.args.name.now none) ∙ ap (find_class c.args.name.now) c.self.view_is

pub returns : goal.returns
returns c =
    let inside = c.self.inside.classes.items in
    let found : FoundAmong inside (length inside) c.args.name.now (Some c.in_ok-place.place.now) = subst (FoundAmong inside (length inside) c.args.name.now) (sym c.in_ok-place.ensures.value) (c.self.invariant.1 c.args.name.now) in
    c.at.ensures ∙ rw c.as_slice.ensures.value (sym (found_class inside c.args.name.now c.in_ok-place.place.now c.self.invariant.0.distinct found)) ∙ ap (find_class c.args.name.now) c.self.view_is
