use Rattle.std.proofs.Common.{refl}
use Rattle.native_model.specs.Table.{cases}
use Rattle.native_calls.proofs.laws.all_rows_but_one_are_coded.Goals as goal

pub returns : goal.returns
unfolding cases
returns c = refl
