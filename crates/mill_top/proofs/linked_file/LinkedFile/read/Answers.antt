use Rattle.std.proofs.Common.{sym}
use Rattle.mill_top.proofs.LinkedFileLaws.{other_length}
use Rattle.mill_top.proofs.linked_file.LinkedFile.read.Goals as goal

pub returns-then-bytes-ne188 : goal.returns-then-bytes-ne188
returns-then-bytes-ne188 c = sym (other_length c.args.bytes.now c.if-bytes-ne188.true)
