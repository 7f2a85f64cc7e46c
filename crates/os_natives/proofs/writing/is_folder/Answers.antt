use Rattle.std.proofs.Common.{[], ◌∷◌, ◌++◌, sym, ◌∙◌, ap}
use Rattle.std.specs.Prelude.{nat_eq}
use Rattle.std.specs.List.{list_any, starts_with}
use Rattle.os_natives.proofs.Ways.{folders_told}
use Rattle.os_natives.proofs.writing.is_folder.Goals as goal

pub returns : goal.returns
returns c =
    c.has_front-2.ensures ∙ (ap (λ front. list_any (λ f. starts_with nat_eq f.0 front) c.args.dest.now) (c.from_vec.ensures ∙ (c.in_ok-push.ensures.items ∙ ap (λ l. l ++ 47 ∷ []) c.in_ok-front.ensures.items)) ∙ folders_told c.args.path.now c.args.dest.now c.requires)
