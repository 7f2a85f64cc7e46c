-- Laws of the code of methods.
use Rattle.std.specs.Prelude.{◌≡◌, ℕ, List, Some, is_some}
use Rattle.class_model.specs.declared.attribute_forms.Attribute.{Attribute}
use Rattle.class_model.specs.declared.class_file.Class.{Class}
use Rattle.class_model.specs.Shape.{has_code}
use Rattle.class_code.specs.Codes.{code_in}
use Rattle.class_code.specs.Sites.{Site, written_site, site_at}

-- JVMS 4.7.3
abbrev pub CodeIsWhereToldOf : Type 0
CodeIsWhereToldOf = (attributes : List Attribute) → is_some (code_in attributes) ≡ has_code attributes

abbrev pub SoundSitesAreWritten : Type 0
SoundSitesAreWritten = (class : Class) (bootstrap name_type : ℕ) (site : Site) → site_at class bootstrap name_type ≡ Some site → written_site class bootstrap name_type ≡ Some site
