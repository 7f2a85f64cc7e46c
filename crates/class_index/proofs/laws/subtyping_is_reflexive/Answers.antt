use Rattle.std.proofs.Common.{refl, inl}
use Rattle.class_index.proofs.laws.subtyping_is_reflexive.Goals as goal

pub returns : goal.returns
returns c = λ classes class. inl refl
