use Rattle.std.proofs.Common.{sym, subst}
use Rattle.class_model.specs.ModifiedUtf8.{IsName}
use Rattle.class_model.proofs.NameOfClass.{class_name-IsName}
use Rattle.class_verify.proofs.Sizes.{name_text-IsName, descriptor_text-IsName}
use Rattle.program_graph.proofs.texts.method_id.Goals as goal

pub of_valid-requires : goal.of_valid-requires
of_valid-requires c =
    subst IsName (sym c.text_or_empty.ensures) (name_text-IsName c.args.site.class.now c.args.site.method.now c.requires.class c.requires.method)

pub of_valid-requires-2 : goal.of_valid-requires-2
of_valid-requires-2 c =
    subst IsName (sym c.text_or_empty-2.ensures) (descriptor_text-IsName c.args.site.class.now c.args.site.method.now c.requires.class c.requires.method)

pub of_valid-requires-3 : goal.of_valid-requires-3
of_valid-requires-3 c = subst IsName (sym c.name-2.ensures) (class_name-IsName c.args.site.class.now c.requires.class)
