use Rattle.std.proofs.Common.{◌≡◌, drop}
use Rattle.std.specs.List.{list_all}
use Rattle.class_model.specs.Constants.{constant_at, is_some_that}
use Rattle.class_code.specs.Sites.{is_joined}
use Rattle.class_code.proofs.sites.are_joined.Given as goal

abbrev pub invariant-loop-number : goal.invariant-loop-number
invariant-loop-number l =
    list_all (λ n. is_some_that is_joined (constant_at l.pool n)) l.numbers
    ≡ list_all (λ n. is_some_that is_joined (constant_at l.pool n)) (drop l.number-index l.numbers)
