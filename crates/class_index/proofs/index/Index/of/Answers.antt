use Rattle.std.proofs.Common.{◌≡◌, List, length, map, take, ◌∙◌, sym, ap, subst}
use Rattle.std.specs.Result.{IfOk, IfErr, OnOk}
use Rattle.std.proofs.lemmas.List.{length-map}
use Rattle.class_model.specs.declared.class_file.Class.{Class}
use Rattle.class_index.specs.declared.outline.Outline.{Outline}
use Rattle.class_index.specs.Outlines.{outline}
use Rattle.class_index.specs.Hierarchy.{all_of}
use Rattle.class_index.specs.Indexed.{IsAll}
use Rattle.class_index.specs.Supers.{IsWhole}
use Rattle.class_index.specs.Faults.{IsFaultOf}
use Rattle.class_index.proofs.Built.{all_is, few_members}
use Rattle.class_model.specs.Programs.{IsProgram}
use Rattle.class_index.proofs.index.Index.of.Goals as goal

parts : (program given again : List Class) (all : List Outline) → IsProgram program → given ≡ program → again ≡ program → all ≡ all_of (map outline again)
    → (take (length given) all ≡ map outline program) × IsAll (length given) all
parts program given again all is e f g =
    let whole : all ≡ all_of (map outline program) = g ∙ ap (λ (xs : List Class). all_of (map outline xs)) f in
    all_is (map outline program) all (length given) (ap length e ∙ sym (length-map program outline)) whole (few_members program all is.shaped whole)

pub indexed-requires-clause-all : goal.indexed-requires-clause-all
indexed-requires-clause-all c =
    (parts c.args.program.now c.classes-own.result.now c.classes.result.now c.in_ok-all.all c.classes-own.ensures.program c.classes-own.ensures.value c.classes.ensures.value c.in_ok-all.ensures).1

pub returns-clause-ok : goal.returns-clause-ok
returns-clause-ok c =
    subst (λ (xs : List Outline). IfOk c.indexed.result (λ index. index ≡ xs))
    (parts c.args.program.now c.classes-own.result.now c.classes.result.now c.in_ok-all.all c.classes-own.ensures.program c.classes-own.ensures.value c.classes.ensures.value c.in_ok-all.ensures).0 c.indexed.ensures.ok

pub returns-clause-fault : goal.returns-clause-fault
returns-clause-fault c =
    subst (λ (xs : List Outline). IfErr c.indexed.result (IsFaultOf xs))
    (parts c.args.program.now c.classes-own.result.now c.classes.result.now c.in_ok-all.all c.classes-own.ensures.program c.classes-own.ensures.value c.classes.ensures.value c.in_ok-all.ensures).0 c.indexed.ensures.fault

pub returns-clause-whole : goal.returns-clause-whole
returns-clause-whole c =
    subst (λ (xs : List Outline). OnOk c.indexed.result (IsWhole xs))
    (parts c.args.program.now c.classes-own.result.now c.classes.result.now c.in_ok-all.all c.classes-own.ensures.program c.classes-own.ensures.value c.classes.ensures.value c.in_ok-all.ensures).0 c.indexed.ensures.whole
