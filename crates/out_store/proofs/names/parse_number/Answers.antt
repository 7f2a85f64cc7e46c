use Rattle.std.proofs.Common.{sym, ◌∙◌, ap, subst, IsUtf8, arith, ◌<◌, ◌^◌}
use Rattle.std.specs.Result.{result_ok}
use Rattle.std.proofs.lemmas.Fmt.{parse-decimal}
use Rattle.out_store.proofs.NameLaws.{decimal_text}
use Rattle.out_store.proofs.names.parse_number.Goals as goal

pub returns-in-Ok : goal.returns-in-Ok
returns-in-Ok c n small same =
    let fits : n < 2 ^ 64 = omega arith in
    c.ok.ensures.value ∙ ap result_ok (parse-decimal 32 n c.in-Ok.text.now c.parse.result small fits (c.in-Ok.ensures.cases.0 ∙ same) c.parse.ensures.value.0)

pub returns-in-Err : goal.returns-in-Err
returns-in-Err c n small same = absurd (c.in-Err.ensures.cases.0 (subst IsUtf8 (sym same) (decimal_text n small)))
