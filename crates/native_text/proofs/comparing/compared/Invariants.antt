use Rattle.std.proofs.Common.{◌≡◌, ◌≤◌, length, drop}
use Rattle.native_model.specs.Texts.{compared_texts}
use Rattle.native_text.proofs.comparing.compared.Given as goal

abbrev pub invariant-loop-i : goal.invariant-loop-i
invariant-loop-i l = record {
  told : compared_texts l.units l.others ≡ compared_texts (drop l.i l.units) (drop l.i l.others);
  within : l.i ≤ length l.others;
}
