-- The kinds of a group of slots, the top first.
use Rattle.std.specs.Prelude.{List, [], ◌∷◌}
use Rattle.class_verify.specs.declared.kinds.Kind.{Kind}
use Rattle.class_verify.specs.declared.stack.Group.{Group}
use Rattle.class_verify.specs.declared.stack.Group.TheVariants as groups

abbrev pub kinds_of : Group → List Kind
kinds_of groups.Zero = []
kinds_of (groups.One top) = top ∷ []
kinds_of (groups.Two top next) = top ∷ next ∷ []
