-- The class files of a workspace, and what is read of each.
use Rattle.std.specs.Prelude.{Bool, false, not, ℕ, List, ◌∷◌, ◌++◌, ◌&&◌, Option, Some, None, codes}
use Rattle.std.specs.Option.{option_map, option_or}
use Rattle.std.specs.List.{find}
use Rattle.std.specs.Str.{bytes_eq}
use Rattle.io_traits.specs.Files.{File, Files}
use Rattle.class_read.specs.ClassFiles.{is_class_path}
use Rattle.mill_top.specs.declared.linked_file.LinkedFile.{LinkedFile}
use Rattle.mill_top.specs.declared.small_file.SmallFile.{SmallFile}
use Rattle.mill_top.specs.declared.task_file.Body.TheVariants.{Constant, Linked}
use Rattle.mill_top.specs.declared.task_file.TaskFile.{TaskFile}
use Rattle.mill_top.specs.LinkedFiles.{linked_of}
use Rattle.mill_top.specs.SmallFiles.{constant, small_of}

-- what small and linked files say: their class, their task and its body
abbrev pub small_task : SmallFile → TaskFile
small_task file = record { class = file.class; task = file.task; body = Constant (constant file.opcode) }

abbrev pub linked_task : LinkedFile → TaskFile
linked_task file = record { class = file.class; task = file.task; body = Linked file.input file.operation (constant file.opcode) }

-- what the small or linked file of these bytes says
unfoldable pub task_file_of : List ℕ → Option TaskFile
task_file_of bytes = option_or (option_map small_task (small_of bytes)) (option_map linked_task (linked_of bytes))

-- the path of the class of this name
abbrev pub class_path : ℕ → List ℕ
class_path class = codes "classes/" ++ class ∷ codes ".class"

-- whether a task's file stands under its class's name
abbrev pub is_in_place : List ℕ → Option TaskFile → Bool
is_in_place path (Some file) = bytes_eq path (class_path file.class)
is_in_place path None = false

-- whether it is a class file that is neither small nor linked, or is not in its place
abbrev pub is_out_of_place : File → Bool
is_out_of_place file = is_class_path file.0 && not (is_in_place file.0 (task_file_of file.1))

-- the first such file
abbrev pub first_out_of_place : Files → Option File
first_out_of_place files = find is_out_of_place files

-- the path for which the files are no build yet, which is the least such one, since the files stand in byte order
abbrev pub not_built : Files → Option (List ℕ)
not_built files = option_map (λ file. file.0) (first_out_of_place files)
