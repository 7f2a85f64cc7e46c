use Rattle.std.proofs.Common.{refl, ◌∙◌}
use Rattle.out_store.proofs.OpenedLaws.{is_kept}
use Rattle.out_store.proofs.opening.keep.Goals as goal

pub returns : goal.returns
returns c files task all reads =
    is_kept files c.args.listed.now c.names_below.result.now c.deref.result.now task c.args.entry _ all
    (c.deref.ensures.value ∙ c.in_ok-folder.ensures) c.names_below.ensures refl refl refl refl c.in_ok-names.ensures reads
