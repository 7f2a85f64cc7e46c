-- What a refusal says of a program's classes.
use Rattle.std.specs.Prelude.{◌≡◌, ℕ, List, []}
use Rattle.class_index.specs.declared.outline.Outline.{Outline}
use Rattle.class_index.specs.declared.fault.IndexFault.{IndexFault}
use Rattle.class_index.specs.declared.fault.IndexFault.TheVariants.{MissingSuper, CyclicSuper, Memory}
use Rattle.class_index.specs.Hierarchy.{all_of}
use Rattle.class_index.specs.Least.{IsIn, IsLeast}
use Rattle.class_index.specs.Supers.{missing, Returns}

abbrev pub IsFaultOf : List Outline → IndexFault → Type 0
IsFaultOf classes (MissingSuper name) = IsLeast (λ n. IsIn n (missing classes)) name
IsFaultOf classes (CyclicSuper name) = (missing classes ≡ []) × IsLeast (Returns (all_of classes)) name
IsFaultOf classes Memory = Unit {0}

-- the least of the names of missing superclasses
abbrev pub IsMissingFault : List (List ℕ) → IndexFault → Type 0
IsMissingFault missing (MissingSuper name) = IsLeast (λ n. IsIn n missing) name
IsMissingFault missing (CyclicSuper name) = ⊥
IsMissingFault missing Memory = Unit {0}
