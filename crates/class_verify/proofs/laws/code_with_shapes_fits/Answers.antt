use Rattle.class_verify.proofs.Families.{each_family_fits}
use Rattle.class_verify.proofs.laws.code_with_shapes_fits.Goals as goal

pub returns : goal.returns
returns c = each_family_fits
