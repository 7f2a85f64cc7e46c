-- The class files of a tree of files.
use Rattle.std.specs.Prelude.{◌≡◌, ℕ, Bool, ◌&&◌, nat_eq, List, map, codes, Ok}
use Rattle.std.specs.List.{filter, starts_with, ends_with}
use Rattle.class_model.specs.declared.class_file.Class.{Class}
use Rattle.class_text.specs.Classes.{class_of}

-- a path and the bytes of its file
abbrev pub File : Type 0
File = List ℕ × List ℕ

abbrev pub Files : Type 0
Files = List File

-- whether a path is below `classes/` and ends in `.class`
abbrev pub is_class_path : List ℕ → Bool
is_class_path path = starts_with nat_eq path (codes "classes/") && ends_with nat_eq path (codes ".class")

-- the files at such paths
abbrev pub class_files : Files → Files
class_files files = filter (λ file. is_class_path file.0) files

-- The class files are these classes, in the order of the paths (JVMS 4).
abbrev pub AreClassesOf : Files → List Class → Type 0
AreClassesOf files classes = map (λ file. class_of file.1) (class_files files) ≡ map Ok classes
