-- Programs that have no class of an external name.
use Rattle.std.specs.Prelude.{◌≡◌, List, None}
use Rattle.std.specs.List.{AllByRecursion}
use Rattle.jvm_tables.specs.Externals.{external_of}
use Rattle.class_index.specs.declared.outline.Outline.{Outline}

-- no class of the program has the name of an external one
abbrev pub HasNoExternal : List Outline → Type 0
HasNoExternal = AllByRecursion (λ o. external_of o.name ≡ None)
