use Rattle.std.proofs.Common.{List, map, ap, ◌∙◌, arith}
use Rattle.std.proofs.lemmas.List.{take_all}
use Rattle.class_model.specs.declared.constant_pool.Constant.{Constant}
use Rattle.const_pool.specs.TextForms.{judged_constant, IsTableOf}
use Rattle.const_pool.proofs.text_forms.TextTable.of.Goals as goal

pub returns : goal.returns
unfolding IsTableOf
returns c =
    c.loop-constant.invariant
    ∙ ap (λ (l : List Constant). map judged_constant l) (take_all c.loop-constant.constant-index c.as_slice-constants.result.now (omega arith) ∙ c.as_slice-constants.ensures)
