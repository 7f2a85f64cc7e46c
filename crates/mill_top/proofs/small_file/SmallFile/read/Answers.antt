use Rattle.std.proofs.Common.{sym}
use Rattle.mill_top.proofs.SmallFileLaws.{other_length}
use Rattle.mill_top.proofs.small_file.SmallFile.read.Goals as goal

pub returns-then-bytes-ne164 : goal.returns-then-bytes-ne164
returns-then-bytes-ne164 c = sym (other_length c.args.bytes.now c.if-bytes-ne164.true)
