use Rattle.std.proofs.Common.{◌≡◌, drop}
use Rattle.std.specs.List.{list_any}
use Rattle.class_model.specs.Constants.{constant_at, is_some_that}
use Rattle.class_verify.specs.Floats.{is_float_load}
use Rattle.class_verify.proofs.floats.any_loads_float.Given as goal

abbrev pub invariant-loop-number : goal.invariant-loop-number
invariant-loop-number l =
    list_any (λ n. is_some_that (is_float_load l.pool) (constant_at l.pool n)) l.numbers
    ≡ list_any (λ n. is_some_that (is_float_load l.pool) (constant_at l.pool n)) (drop l.number-index l.numbers)
