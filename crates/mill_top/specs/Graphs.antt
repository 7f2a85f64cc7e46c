-- The task graph of a build: its tasks, why a build is refused, and the plan of a task.
use Rattle.std.specs.Prelude.{◌≡◌, ◌⊎◌, Bool, false, ℕ, zero, suc, List, [], ◌∷◌, ◌++◌, length, flat_map, count_by, nat_le, ◌==◌, ◌||◌, Option, Some, None, codes, is_none, is_some, option_and_then}
use Rattle.std.specs.Option.{option_map, option_map_or, option_or}
use Rattle.std.specs.List.{filter_map, find, list_any}
use Rattle.io_traits.specs.Files.{Files}
use Rattle.class_read.specs.ClassFiles.{class_files}
use Rattle.mill_top.specs.declared.build_fault.BuildFault.{BuildFault}
use Rattle.mill_top.specs.declared.build_fault.BuildFault.TheVariants.{NotBuilt, DuplicateTask, UnknownInput, Cycle, Memory}
use Rattle.mill_top.specs.declared.task_file.Body.{Body}
use Rattle.mill_top.specs.declared.task_file.Body.TheVariants.{Constant, Linked}
use Rattle.mill_top.specs.declared.task_file.TaskFile.{TaskFile}
use Rattle.mill_top.specs.Builds.{not_built, task_file_of}

-- the names that a task may have
abbrev pub letters : List ℕ
letters = codes "abcdefghijklmnopqrstuvwxyz"

-- the task of each class file, in path order
unfoldable pub task_files : Files → List TaskFile
task_files files = filter_map (λ file. task_file_of file.1) (class_files files)

-- the first file that has the task
abbrev pub file_with : List TaskFile → ℕ → Option TaskFile
file_with files task = find (λ file. file.task == task) files

-- the graph of the tasks of these files: a file for each task, in name order
unfoldable pub graph_of : List TaskFile → List TaskFile
graph_of files = filter_map (file_with files) letters

abbrev pub build_graph : Files → List TaskFile
build_graph files = graph_of (task_files files)

-- the task of this name
abbrev pub named : List TaskFile → List ℕ → Option TaskFile
named graph (task ∷ []) = file_with graph task
named graph _ = None

abbrev pub task_in : Files → List ℕ → Option TaskFile
task_in files task = named (build_graph files) task

-- the inputs that a body takes, in declared order
abbrev pub inputs_of : Body → List ℕ
inputs_of (Constant constant) = []
inputs_of (Linked input operation constant) = input ∷ []

-- the descriptor of a body's method (JVMS 4.3.3)
abbrev pub descriptor_of : Body → List ℕ
descriptor_of (Constant constant) = codes "()I"
descriptor_of (Linked input operation constant) = codes "(I)I"

abbrev pub inputs_in : List TaskFile → ℕ → List ℕ
inputs_in graph task = option_map_or (λ file. inputs_of file.body) (file_with graph task) []

-- the least task that two files have
unfoldable pub duplicate_task : List TaskFile → Option ℕ
duplicate_task files = find (λ task. nat_le 2 (count_by (λ file. file.task == task) files)) letters

-- the first input of a task that the graph doesn't have
unfoldable pub unknown_input_of : List TaskFile → TaskFile → Option BuildFault
unknown_input_of graph file = option_map (λ input. UnknownInput input file.task) (find (λ input. is_none (file_with graph input)) (inputs_of file.body))

-- that of the first task in name order which has one
unfoldable pub unknown_input : List TaskFile → Option BuildFault
unknown_input graph = option_and_then (unknown_input_of graph) (find (λ file. is_some (unknown_input_of graph file)) graph)

-- whether one to n steps from a task to an input of it lead from this task to the goal
abbrev pub leads : ℕ → List TaskFile → ℕ → ℕ → Bool
leads zero graph task goal = false
leads (suc n) graph task goal = list_any (λ input. (input == goal) || leads n graph input goal) (inputs_in graph task)

-- the least task from which inputs lead back to it. A way that comes to no task twice has no more steps than there are
-- tasks.
unfoldable pub cycle : List TaskFile → Option ℕ
cycle graph = option_map (λ file. file.task) (find (λ file. leads (length graph) graph file.task file.task) graph)

-- why a build that is loaded is refused
abbrev pub refusal_of_graph : List TaskFile → Option BuildFault
refusal_of_graph graph = option_or (unknown_input graph) (option_map Cycle (cycle graph))

abbrev pub refusal_of_tasks : List TaskFile → Option BuildFault
refusal_of_tasks files = option_or (option_map DuplicateTask (duplicate_task files)) (refusal_of_graph (graph_of files))

unfoldable pub refusal_of_build : Files → Option BuildFault
refusal_of_build files = option_or (option_map NotBuilt (not_built files)) (refusal_of_tasks (task_files files))

-- the build is refused so, or memory was wanted
abbrev pub IsRefusalUnlessMemory : Option BuildFault → BuildFault → Type 0
IsRefusalUnlessMemory refusal fault = (refusal ≡ Some fault) ⊎ (fault ≡ Memory)

-- The tasks upstream of a task, each behind its inputs, and then the task itself, with ways of at most n tasks. Here
-- each task has one input at most, so that none comes twice.
abbrev pub upstream : ℕ → List TaskFile → ℕ → List TaskFile
upstream zero graph task = []
upstream (suc n) graph task = option_map_or (λ file. flat_map (upstream n graph) (inputs_of file.body) ++ file ∷ []) (file_with graph task) []

-- the plan of a task: nothing where the graph has no such task
unfoldable pub plan_in : List TaskFile → List ℕ → List TaskFile
plan_in graph (task ∷ []) = upstream (length graph) graph task
plan_in graph _ = []

abbrev pub plan : Files → List ℕ → List TaskFile
plan files task = plan_in (build_graph files) task

-- the name of a file's task
abbrev pub task_name : TaskFile → List ℕ
task_name file = file.task ∷ []
