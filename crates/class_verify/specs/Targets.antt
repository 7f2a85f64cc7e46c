-- What stands where control goes from an instruction (JVMS 6.5).
use Rattle.std.specs.Prelude.{ℕ, Bool, false, not, ◌&&◌, ◌||◌, List, [], ◌∷◌, Option, Some, None}
use Rattle.class_model.specs.declared.attribute_forms.Handler.{Handler}
use Rattle.class_verify.specs.declared.frames.Written.{Written}
use Rattle.class_verify.specs.declared.kinds.Kind.{Kind}
use Rattle.class_verify.specs.declared.shape.Shape.{Shape}
use Rattle.class_code.specs.Control.{covers}
use Rattle.class_verify.specs.Frames.{frame_at}
use Rattle.class_verify.specs.Kinds.{is_reference, all_fit}
use Rattle.class_verify.specs.Shapes.{shape_fits}

abbrev pub fits_written : Shape → Option Shape → Bool
fits_written shape None = false
fits_written shape (Some wanted) = shape_fits shape wanted

-- the file writes a frame into which a shape fits
abbrev pub is_accepted : Shape → Option Written → Bool
is_accepted shape None = false
is_accepted shape (Some w) = fits_written shape w.shape

abbrev pub accepts : List ℕ → List Written → Shape → ℕ → Bool
accepts code frames shape pc = is_accepted shape (frame_at code frames pc)

-- one item, which is a reference
abbrev pub is_thrown : List Kind → Bool
is_thrown [] = false
is_thrown (kind ∷ []) = is_reference kind
is_thrown (kind ∷ next ∷ stack) = false

abbrev pub catches_in : List Kind → Option Shape → Bool
catches_in locals None = false
catches_in locals (Some wanted) = is_thrown wanted.stack && all_fit locals wanted.locals

abbrev pub is_caught : List Kind → Option Written → Bool
is_caught locals None = false
is_caught locals (Some w) = catches_in locals w.shape

-- Where the range of a handler has the pc, the locals fit its frame, whose stack is the thrown object alone.
abbrev pub catches : List ℕ → List Written → ℕ → List Kind → Handler → Bool
catches code frames pc locals h = not (covers pc h) || is_caught locals (frame_at code frames h.handler)
