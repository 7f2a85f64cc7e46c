use Rattle.out_store.proofs.NameLaws.{entry_path}
use Rattle.out_store.proofs.names.entry_name.Goals as goal

pub file_name-requires : goal.file_name-requires
file_name-requires c = entry_path c.args.task.now c.requires
