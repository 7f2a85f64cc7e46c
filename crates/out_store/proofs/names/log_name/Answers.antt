use Rattle.out_store.proofs.NameLaws.{log_path}
use Rattle.out_store.proofs.names.log_name.Goals as goal

pub file_name-requires : goal.file_name-requires
file_name-requires c = log_path c.args.task.now c.requires
