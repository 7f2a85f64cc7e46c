use Rattle.std.proofs.Common.{◌≡◌, Some, None, sym, ap, subst, ◌∙◌}
use Rattle.std.specs.Option.{option_copied}
use Rattle.std.specs.List.{find}
use Rattle.mill_top.specs.Loading.{is_too_long}
use Rattle.mill_top.proofs.LoadingLaws.{long_unloaded, refused_unloaded, class_files_short}
use Rattle.mill_top.proofs.loading.load.Goals as goal

pub returns-in-Some-clause-err : goal.returns-in-Some-clause-err
returns-in-Some-clause-err c =
    let found = subst (λ files. find is_too_long files ≡ Some c.in-Some.file.now) c.as_slice.ensures.files (sym c.in-Some.ensures) in
    long_unloaded c.args.files.now c.in-Some.file.now c.too_long.result found c.too_long.ensures

pub load_set-requires : goal.load_set-requires
load_set-requires c =
    let none = subst (λ files. find is_too_long files ≡ None) c.as_slice.ensures.files (sym c.first_too_long.ensures ∙ ap option_copied c.in_default.is) in
    class_files_short c.args.files.now none

pub returns-in-Err-clause-err : goal.returns-in-Err-clause-err
returns-in-Err-clause-err c =
    let none = subst (λ files. find is_too_long files ≡ None) c.as_slice.ensures.files (sym c.first_too_long.ensures ∙ ap option_copied c.in_default.is) in
    refused_unloaded c.args.files.now c.in-Err.fault none c.in-Err.ensures.fault
