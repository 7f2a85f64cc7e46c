use Rattle.std.proofs.Common.{◌≡◌, ℕ, ◌<◌, List, take, map, get_or}
use Rattle.serde_json.specs.View.{view}
use Rattle.out_entry.specs.Entries.{file_json, IsFile}
use Rattle.out_entry.proofs.encode.files_json.Given as goal

abbrev pub invariant-loop-file : goal.invariant-loop-file
invariant-loop-file l = record {
  items : map view l.items.items ≡ map file_json (take l.file-index l.files);
  files : (k : ℕ) (d : List ℕ × List ℕ) → k < l.file-index → IsFile (get_or l.files k d);
}
