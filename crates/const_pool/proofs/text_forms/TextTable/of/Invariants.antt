use Rattle.std.proofs.Common.{◌≡◌, map, take}
use Rattle.const_pool.specs.TextForms.{judged_constant}
use Rattle.const_pool.proofs.text_forms.TextTable.of.Given as goal

abbrev pub invariant-loop-constant : goal.invariant-loop-constant
invariant-loop-constant l = l.forms.items ≡ map judged_constant (take l.constant-index l.constants)
