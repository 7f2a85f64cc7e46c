use Rattle.std.proofs.Common.{◌≡◌, ◌+◌, ◌++◌, false, take, drop, flat_map}
use Rattle.std.specs.List.{AllByRecursion}
use Rattle.class_model.specs.Constants.{IsConstant}
use Rattle.class_model.specs.Spelling.{constant}
use Rattle.const_pool.specs.Writing.{misfit_from}
use Rattle.const_pool.proofs.pool_writer.put_all.Given as goal

abbrev pub invariant-loop-i : goal.invariant-loop-i
invariant-loop-i l =
    (misfit_from l.pool 1 false l.pool.constants ≡ misfit_from l.pool (l.i + 1) l.due (drop l.i l.pool.constants))
    × (l.out.items ≡ l.fn.out.items ++ flat_map constant (take l.i l.pool.constants))
    × AllByRecursion IsConstant (take l.i l.pool.constants)
