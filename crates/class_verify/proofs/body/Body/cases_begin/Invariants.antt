use Rattle.std.proofs.Common.{◌≡◌, true, take}
use Rattle.std.specs.List.{list_all}
use Rattle.jvm_tables.specs.Switching.{cases_at}
use Rattle.class_verify.specs.Places.{begins}
use Rattle.class_verify.proofs.Switched.{places}
use Rattle.class_verify.proofs.body.Body.cases_begin.Given as goal

abbrev pub invariant-loop-place : goal.invariant-loop-place
invariant-loop-place l = list_all (begins l.self.code.now) (take l.place (places (cases_at l.self.code.now l.instr))) ≡ true
