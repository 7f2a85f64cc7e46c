-- What the code holds of a declaration, as the definitions say it.
use Rattle.std.specs.Prelude.{◌≡◌, ℕ, List, [], ◌∷◌, ◌++◌, map, Option, Some, None, option_map, option_and_then}
use Rattle.std.specs.String.{string_bytes}
use denote.Ref.{Bor}
use Rattle.tree_value.specs.declared.value.ValueType.{ValueType}
use Rattle.class_model.specs.Descriptors.{FieldType, behind}
use Rattle.task_annotations.specs.declared.elements.Elements as held
use Rattle.task_annotations.specs.declared.declaration.Draft as draft
use Rattle.task_annotations.specs.declared.declaration.Declaration as declaration
use Rattle.task_annotations.specs.declared.sites.Site as held_site
use Rattle.task_annotations.specs.Sites.{Site}
use Rattle.task_annotations.specs.Declarations.{Signature, signature, Elements, Declaration, IsPathOrNone}

abbrev pub signature_read : List (Option ValueType) → Option ValueType → Signature
signature_read parameters result = record { parameters = parameters; result = result }

abbrev pub after : List (Option ValueType) → Signature → Signature
after before s = record { parameters = before ++ s.parameters; result = s.result }

-- parameters that were there, with those of types that were read behind them, and the result
abbrev pub parameters_read : List (Option ValueType) → Option (List FieldType × List ℕ) → Option Signature
parameters_read before found = option_map (after before) (option_map signature (option_and_then behind found))

abbrev pub all_now : List (Bor (List ℕ)) → List (List ℕ)
all_now texts = map (λ t. t.now) texts

abbrev pub elements_read : held.Elements → Elements
elements_read e = record {
  name = e.name.now;
  kind = e.kind;
  inputs = all_now e.inputs.items;
  path = option_map string_bytes e.path;
  budget = e.budget;
}

-- units that were read, where nothing is left
abbrev pub ended : List ℕ → List ℕ → Option (List ℕ)
ended units [] = Some units
ended units (b ∷ rest) = None

abbrev pub draft_read : draft.Draft → Declaration
draft_read d = record { elements = elements_read d.elements; parameters = d.parameters.items; result = d.returned }

abbrev pub declaration_read : declaration.Declaration → Declaration
declaration_read d = record {
  elements = record { name = d.name.now; kind = d.kind; inputs = all_now d.inputs.items; path = d.path; budget = d.budget };
  parameters = d.parameters.items;
  result = d.returned;
}

-- the path of a text, or none where the text is no path
abbrev pub IsPathRead : Option (List ℕ) → Option (Option (List ℕ)) → Type 0
IsPathRead text (Some path) = (path ≡ text) × IsPathOrNone text
IsPathRead text None = IsPathOrNone text → ⊥

abbrev pub IsSettled : Declaration → Option Declaration → Type 0
IsSettled d (Some settled) = (settled ≡ d) × IsPathOrNone d.elements.path
IsSettled d None = IsPathOrNone d.elements.path → ⊥

abbrev pub site_read : held_site.Site → Site
site_read s = record { class = s.class.now; method = s.method.now; member = s.member }

abbrev pub sites_read : List held_site.Site → List Site
sites_read sites = map site_read sites
