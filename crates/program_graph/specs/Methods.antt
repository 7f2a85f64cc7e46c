-- The order of methods: by the names of their classes, then by their own, then by their descriptors.
use Rattle.std.specs.Prelude.{ℕ, List, IsPermutation, IsSorted}
use Rattle.std.specs.Ordering.{nat_cmp, then_cmp}
use Rattle.std.specs.declared.cmp.Ordering.{Ordering}
use Rattle.std.specs.Cmp.Lexicographic.{slice_cmp}
use Rattle.class_model.specs.Shape.{class_name, name_text, descriptor_text}
use Rattle.task_annotations.specs.Sites.{Site}

-- texts in the order of their bytes
abbrev pub text_cmp : List ℕ → List ℕ → Ordering
text_cmp = slice_cmp nat_cmp

abbrev pub by_class : Site → Site → Ordering
by_class s t = text_cmp (class_name s.class) (class_name t.class)

abbrev pub by_name : Site → Site → Ordering
by_name s t = text_cmp (name_text s.class.pool s.method) (name_text t.class.pool t.method)

abbrev pub by_descriptor : Site → Site → Ordering
by_descriptor s t = text_cmp (descriptor_text s.class.pool s.method) (descriptor_text t.class.pool t.method)

abbrev pub site_cmp : Site → Site → Ordering
site_cmp = then_cmp by_class (then_cmp by_name by_descriptor)

-- the same methods in their order
pub record AreInOrder (sites ordered : List Site) : Type 0 where
  pub same : IsPermutation sites ordered
  pub sorted : IsSorted site_cmp ordered
