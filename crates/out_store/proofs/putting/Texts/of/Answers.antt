use Rattle.std.proofs.Common.{sym, subst}
use Rattle.out_entry.specs.Entries.{IsEntry}
use Rattle.out_store.proofs.PublishLaws.{is_entry}
use Rattle.out_store.proofs.putting.Texts.of.Goals as goal

pub bytes_of-requires : goal.bytes_of-requires
bytes_of-requires c = subst IsEntry (sym c.in_ok-entry.ensures) (is_entry c.args.run.now c.args.number c.requires.number c.requires.files c.prove_tree.ensures)
