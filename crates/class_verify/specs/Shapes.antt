-- The kinds on the operand stack and in the locals.
use Rattle.std.specs.Prelude.{Bool, ◌&&◌}
use Rattle.class_verify.specs.declared.shape.Shape.{Shape}
use Rattle.class_verify.specs.Kinds.{all_fit}

-- each slot fits the one of another shape at its place
abbrev pub shape_fits : Shape → Shape → Bool
shape_fits shape wanted = all_fit shape.stack wanted.stack && all_fit shape.locals wanted.locals
