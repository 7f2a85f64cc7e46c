use Rattle.std.proofs.Common.{◌≡◌, ◌++◌, drop}
use Rattle.class_read.specs.ClassFiles.{class_files}
use Rattle.mill_top.specs.Inputs.{whole_row, nets, paths_and_bytes}
use Rattle.mill_top.proofs.inputs.whole_row.Given as goal

abbrev pub invariant-loop-file : goal.invariant-loop-file
invariant-loop-file l =
    whole_row l.inputs ≡ l.text.items ++ nets (paths_and_bytes (class_files (drop l.file-index l.file-items)))
