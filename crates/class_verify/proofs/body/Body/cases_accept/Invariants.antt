use Rattle.std.proofs.Common.{◌≡◌, true, take}
use Rattle.std.specs.List.{list_all}
use Rattle.jvm_tables.specs.Switching.{cases_at}
use Rattle.class_verify.specs.Targets.{accepts}
use Rattle.class_verify.proofs.Switched.{places}
use Rattle.class_verify.proofs.body.Body.cases_accept.Given as goal

abbrev pub invariant-loop-place : goal.invariant-loop-place
invariant-loop-place l = record {
  cases : list_all (accepts l.self.code.now l.self.frames l.shape) (take l.place (places (cases_at l.self.code.now l.instr))) ≡ true;
  last : accepts l.self.code.now l.self.frames l.shape l.accepted ≡ true;
}
