use Rattle.std.proofs.Common.{◌<◌, ◌^◌, length, subst}
use Rattle.std.specs.Prelude.{All}
use Rattle.std.proofs.lemmas.List.Elements.{All-filter}
use Rattle.class_read.specs.ClassFiles.{File, Files, is_class_path}
use Rattle.class_tests.proofs.builds.load.Goals as goal

pub load_set-requires : goal.load_set-requires
load_set-requires c =
    let Short : File → Type 0 = λ f. length f.1 < 2 ^ 32 in
    let all : All Short c.args.files.now = subst (λ (fs : Files). All Short fs) c.as_slice.ensures.files (c.are_short.ensures c.if-not-are_short.false) in
    All-filter (λ (f : File). is_class_path f.0) Short c.args.files.now all
