-- Names in units of UTF-16, with slashes or with dots for them.
use Rattle.std.specs.Prelude.{ℕ, Bool, List, map, if◌then◌else◌}
use Rattle.line_text.specs.Lines.{units_of_name}
use Rattle.native_model.specs.Texts.{dot_for_slash}

abbrev pub spelling : Bool → ℕ → ℕ
spelling dots u = if dots then dot_for_slash u else u

unfoldable pub spelled : Bool → List ℕ → List ℕ
spelled dots name = map (spelling dots) (units_of_name name)
