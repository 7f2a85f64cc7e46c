use Rattle.std.proofs.Common.{◌≡◌, ◌-◌, List, Option, Some, None, slice_get, sym, ◌∙◌, ap, arith}
use Rattle.class_code.specs.declared.descriptors.Told.{Told}
use Rattle.class_code.proofs.TextsTold.{text_told}
use Rattle.class_code.proofs.descriptors.told_at.Goals as goal

pub returns-in-Some-Some : goal.returns-in-Some-Some
returns-in-Some-Some c =
    let same : c.from.result ≡ c.args.number = omega arith in
    let there : Some (Some c.in-Some-Some.told) ≡ slice_get c.args.descriptors.now (c.from.result - 1) =
    sym (ap (λ (o : Option Told). Some o) c.in-Some-Some.field-0-is) ∙ c.in-Some-Some.ensures.value in
    text_told c.args._pool.now c.args.number c.from.result (Some (Some c.in-Some-Some.told)) same c.if-number-eq0.false
    (there ∙ ap (λ (xs : List (Option Told)). slice_get xs (c.from.result - 1)) c.requires)

pub returns-in-Some-None : goal.returns-in-Some-None
returns-in-Some-None c =
    let same : c.from.result ≡ c.args.number = omega arith in
    let there : Some None ≡ slice_get c.args.descriptors.now (c.from.result - 1) =
    sym (ap (λ (o : Option Told). Some o) c.in-Some-None.field-0-is) ∙ c.in-Some-None.ensures.value in
    text_told c.args._pool.now c.args.number c.from.result (Some None) same c.if-number-eq0.false
    (there ∙ ap (λ (xs : List (Option Told)). slice_get xs (c.from.result - 1)) c.requires)

pub returns-in-None : goal.returns-in-None
returns-in-None c =
    let same : c.from.result ≡ c.args.number = omega arith in
    text_told c.args._pool.now c.args.number c.from.result None same c.if-number-eq0.false
    (c.in-None.ensures.value ∙ ap (λ (xs : List (Option Told)). slice_get xs (c.from.result - 1)) c.requires)
