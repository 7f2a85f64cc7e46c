use Rattle.std.proofs.Common.{ℕ, List, ◌++◌, ◌∷◌, codes, sym, ap, subst, ◌∙◌}
use Rattle.std.specs.Fmt.{decimal}
use Rattle.tree_value.specs.Paths.{IsPath}
use Rattle.value_text.specs.Texts.{slashed}
use Rattle.out_store.proofs.NameLaws.{generation_path}
use Rattle.out_store.proofs.names.generation_name.Goals as goal

pub file_name-requires : goal.file_name-requires
file_name-requires c =
    subst (λ (ending : List ℕ). IsPath (slashed c.args.task.now ++ ending)) (sym (c.as_slice-2.ensures.value ∙ c.in_ok-ending.ensures ∙ ap (λ (path : List ℕ). codes ".dest/g" ++ (decimal c.args.number ++ 47 ∷ path)) c.as_slice.ensures.bytes))
    (generation_path c.args.task.now c.args.number c.args.path.now c.requires.task c.requires.number c.requires.some c.requires.short c.prove_path.ensures)
