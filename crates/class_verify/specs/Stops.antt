-- Why a walk over code ends early.
use Rattle.std.specs.Prelude.{◌≡◌, Option, Some, ⊤}
use Rattle.class_verify.specs.declared.cause.Cause.{Cause}
use Rattle.class_verify.specs.declared.cause.Stop.{Stop}
use Rattle.class_verify.specs.declared.cause.Stop.TheVariants.{Misfit, Memory}

-- A stop names this cause; of a want of memory nothing is said.
abbrev pub StopsBy : Option Cause → Stop → Type 0
StopsBy found (Misfit cause) = found ≡ Some cause
StopsBy found Memory = ⊤
