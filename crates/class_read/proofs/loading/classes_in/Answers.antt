use Rattle.std.proofs.Common.{◌≡◌, ℕ, ◌+◌, ◌<◌, ◌^◌, List, [], ◌∷◌, ◌++◌, length, take, Vec, Global, sym, ap, subst, ◌∙◌, arith}
use Rattle.std.specs.Prelude.{All}
use Rattle.std.proofs.lemmas.List.Elements.{All-push}
use Rattle.class_model.specs.declared.class_file.Class.{Class}
use Rattle.class_model.specs.Shape.{Shaped}
use Rattle.class_read.specs.ClassFiles.{File, Files, AreClassesOf}
use Rattle.class_read.proofs.ClassFileLemmas.{one_more_class, no_class_file, all_classes, at_class_file, refused_at}
use Rattle.class_read.proofs.loading.classes_in.Goals as goal
use Rattle.class_read.proofs.loading.classes_in.Goals.{then-is_class_file+in-Ok+in_ok-push-in-Ok, else-is_class_file}

pub class_at-requires : goal.class_at-requires
class_at-requires c =
    at_class_file (λ (f : File). length f.1 < 2 ^ 32) c.args.files.now c.loop-file.file-index c.file-item.result (omega arith) c.file-item.is (sym c.if-is_class_file.ensures) c.requires

pub returns-in-Err-clause-fault : goal.returns-in-Err-clause-fault
returns-in-Err-clause-fault c =
    refused_at c.args.files.now c.loop-file.file-index c.file-item.result c.loop-file.classes.items c.in-Err.fault (omega arith) c.file-item.is (sym c.if-is_class_file.ensures) c.loop-file.invariant.read c.in-Err.ensures.fault

pub loop-file-preserved : goal.loop-file-preserved
loop-file-preserved c =
    let files : Files = c.args.files.now in
    let at : ℕ = c.loop-file.file-index in
    let before : List Class = c.loop-file.classes.items in
    elim c.if-is_class_file.branch [
      | then-is_class_file+in-Ok+in_ok-push-in-Ok w ↦
          let items : c.if-is_class_file.classes.items ≡ before ++ w.in-Ok.class ∷ [] = ap (λ (v : Vec Class Global). v.items) w.classes-is ∙ w.in_ok-push-in-Ok.ensures.items in
          record {
            read = subst (λ (cs : List Class). AreClassesOf (take (at + 1) files) cs) (sym items) (one_more_class files at c.file-item.result before w.in-Ok.class (omega arith) c.file-item.is (sym w.if-is_class_file.ensures) w.in-Ok.ensures.read c.loop-file.invariant.read);
            shaped = subst (λ (cs : List Class). All Shaped cs) (sym items) (All-push Shaped before w.in-Ok.class c.loop-file.invariant.shaped w.in-Ok.ensures.shaped);
          }
      | else-is_class_file w ↦
          let items : c.if-is_class_file.classes.items ≡ before = ap (λ (v : Vec Class Global). v.items) w.classes-is in
          record {
            read = subst (λ (cs : List Class). AreClassesOf (take (at + 1) files) cs) (sym items) (no_class_file files at c.file-item.result before (omega arith) c.file-item.is (sym w.if-is_class_file.ensures) c.loop-file.invariant.read);
            shaped = subst (λ (cs : List Class). All Shaped cs) (sym items) c.loop-file.invariant.shaped;
          }
    ]

pub returns-clause-read : goal.returns-clause-read
returns-clause-read c =
    all_classes c.args.files.now c.loop-file.file-index c.loop-file.classes.items (omega arith) c.loop-file.invariant.read
