use Rattle.std.proofs.Common.{◌≡◌, List, ℕ, All, map, take}
use Rattle.serde_json.specs.View.{items_view, items_of}
use Rattle.out_entry.specs.Entries.{file_json, IsFile}
use Rattle.out_entry.proofs.decode.files_of_items.Given as goal

abbrev pub invariant-loop-item : goal.invariant-loop-item
invariant-loop-item l = (files : List (List ℕ × List ℕ)) → All IsFile files → items_view l.items ≡ items_of (map file_json files) → l.files.items ≡ take l.item-index files
