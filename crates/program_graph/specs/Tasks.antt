-- The tasks that methods declare, and the methods that are refused.
use Rattle.std.specs.Prelude.{◌≡◌, ℕ, List, ◌∷◌, ◌++◌, codes, All, Option, Some, None}
use Rattle.class_verify.specs.Verified.{IsNamed}
use Rattle.task_model.specs.declared.task_row.Kind.{Kind}
use Rattle.task_annotations.specs.declared.declared_kind.DeclaredKind.{DeclaredKind}
use Rattle.task_annotations.specs.declared.declared_kind.DeclaredKind.TheVariants.{Supported, Worker, Persistent}
use Rattle.task_annotations.specs.Declarations.{Declaration, Declares, followed}
use Rattle.task_annotations.specs.Sites.{Site}
use Rattle.task_graph.specs.declared.fault.GraphFault.{GraphFault}
use Rattle.task_graph.specs.declared.fault.GraphFault.TheVariants.{BadTask, UnsupportedKind}

-- a method with a Task annotation, and what it declares
pub record Task : Type 0 where
  pub site : Site
  pub declaration : Declaration

abbrev pub task : Site → Declaration → Task
task s d = record { site = s; declaration = d }

abbrev pub name_of : Task → List ℕ
name_of t = t.declaration.elements.name

abbrev pub kind_of : Task → Kind
kind_of t = followed t.declaration.elements.kind

-- the word of a kind that is known and not supported
abbrev pub unsupported : DeclaredKind → Option (List ℕ)
unsupported Worker = Some (codes "worker")
unsupported Persistent = Some (codes "persistent")
unsupported (Supported k) = None

abbrev pub DeclaresBy : Site → Option Declaration → Type 0
DeclaresBy s = Declares s.class.pool s.method

-- The method declares the task, whose kind is supported.
pub record IsAccepted (t : Task) : Type 0 where
  pub declared : DeclaresBy t.site (Some t.declaration)
  pub supported : unsupported t.declaration.elements.kind ≡ None

-- The method or its annotation breaks a rule by itself, or what it declares is of a kind that is not supported.
abbrev pub IsRefusal : Site → GraphFault → Type 0
IsRefusal s (BadTask id) = IsNamed s.class s.method id × DeclaresBy s None
IsRefusal s (UnsupportedKind name kind) =
    (d : Declaration) × DeclaresBy s (Some d) × (name ≡ d.elements.name) × (unsupported d.elements.kind ≡ Some kind)
IsRefusal s _ = ⊥

-- the first of methods that is refused, and why
pub record IsFirstRefused (sites : List Site) (fault : GraphFault) : Type 0 where
  pub front : List Site
  pub site : Site
  pub back : List Site
  pub order : sites ≡ front ++ (site ∷ back)
  pub before : All (λ s. (d : Declaration) × IsAccepted (task s d)) front
  pub refusal : IsRefusal site fault
