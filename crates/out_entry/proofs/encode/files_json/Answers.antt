use Rattle.std.proofs.Common.{arith, ap, ◌∙◌, map}
use Rattle.std.proofs.lemmas.List.{take_all}
use Rattle.serde_json.specs.View.{view, items_of}
use Rattle.out_entry.specs.Entries.{file_json}
use Rattle.out_entry.proofs.Members.{encoded_more, valid_more}
use Rattle.out_entry.proofs.encode.files_json.Goals as goal

pub loop-file-preserved : goal.loop-file-preserved
loop-file-preserved c = record {
  items =
      ap (map view) c.in_ok-push.ensures.items
      ∙ encoded_more c.args.files.now c.loop-file.items.items c.loop-file.file-index c.in_ok-file_json.field-0 c.file-item.result c.loop-file.invariant.items c.file-item.is c.loop-file-test.true c.in_ok-file_json.ensures.json;
  files = valid_more c.args.files.now c.loop-file.file-index c.file-item.result c.loop-file.invariant.files c.file-item.is c.loop-file-test.true c.in_ok-file_json.ensures.file;
}

pub returns-clause-items : goal.returns-clause-items
returns-clause-items c =
    let all = take_all c.loop-file.file-index c.args.files.now (omega arith) in
    ap items_of (c.loop-file.invariant.items ∙ ap (map file_json) all)

pub returns-clause-files : goal.returns-clause-files
returns-clause-files c k d within = c.loop-file.invariant.files k d (omega arith)
