-- Laws of task graphs.
use Rattle.std.proofs.Common.{◌≡◌, ◌==◌, ℕ, ℤ, suc, Bool, true, false, length, is_some, is_none, option_and_then, subst, List, [], ◌∷◌, ◌++◌, ◌∙◌, Option, Some, None, refl, flat_map, ap, sym, append_assoc}
use Rattle.std.specs.List.{find}
use Rattle.std.specs.Option.{option_map}
use Rattle.std.proofs.lemmas.List.{append-nil}
use Rattle.io_traits.specs.Files.{File, Files}
use Rattle.mill_top.specs.declared.build_fault.BuildFault.TheVariants.{NotBuilt, DuplicateTask, UnknownInput, Cycle}
use Rattle.mill_top.specs.declared.operation.Operation.{Operation}
use Rattle.mill_top.specs.declared.task_file.Body.{Body}
use Rattle.mill_top.specs.declared.task_file.Body.TheVariants.{Constant, Linked}
use Rattle.mill_top.specs.declared.task_file.TaskFile.{TaskFile}
use Rattle.mill_top.specs.Builds.{first_out_of_place, not_built}
use Rattle.mill_top.specs.Graphs.{file_with, graph_of, build_graph, task_files, inputs_of, duplicate_task, unknown_input_of, unknown_input, leads, cycle, refusal_of_graph, refusal_of_tasks, refusal_of_build, upstream}
use Rattle.mill_top.proofs.FindLaws.{neither, unmapped, passes, fails}
use Rattle.mill_top.proofs.TableLaws.{found-task}

pub duplicate_refused : (files : List TaskFile) (task : ℕ) → duplicate_task files ≡ Some task → refusal_of_tasks files ≡ Some (DuplicateTask task)
duplicate_refused files task e = rw e refl

pub distinct_refusal : (files : List TaskFile) → duplicate_task files ≡ None → refusal_of_tasks files ≡ refusal_of_graph (graph_of files)
distinct_refusal files e = rw e refl

pub place_refused : (files : Files) (file : File) → first_out_of_place files ≡ Some file → refusal_of_build files ≡ Some (NotBuilt file.0)
unfolding refusal_of_build
place_refused files file e = rw e refl

pub placed_refusal : (files : Files) → first_out_of_place files ≡ None → refusal_of_build files ≡ refusal_of_tasks (task_files files)
unfolding refusal_of_build
placed_refusal files e = rw e refl

-- the tasks upstream of a task that has a file
pub upstream-file : (graph : List TaskFile) (steps k task : ℕ) (file : TaskFile) → steps ≡ suc k → file_with graph task ≡ Some file
    → upstream steps graph task ≡ flat_map (upstream k graph) (inputs_of file.body) ++ file ∷ []
upstream-file graph steps k task file is has = rw (is, has) refl

pub upstream-constant : (graph : List TaskFile) (steps k task : ℕ) (file : TaskFile) (constant : ℤ) → steps ≡ suc k → file_with graph task ≡ Some file
    → file.body ≡ Constant constant → upstream steps graph task ≡ file ∷ []
upstream-constant graph steps k task file constant is has body =
    upstream-file graph steps k task file is has ∙ ap (λ (b : Body). flat_map (upstream k graph) (inputs_of b) ++ file ∷ []) body

pub upstream-linked : (graph : List TaskFile) (steps k task : ℕ) (file : TaskFile) (input : ℕ) (operation : Operation) (constant : ℤ) → steps ≡ suc k
    → file_with graph task ≡ Some file → file.body ≡ Linked input operation constant → upstream steps graph task ≡ upstream k graph input ++ file ∷ []
upstream-linked graph steps k task file input operation constant is has body =
    upstream-file graph steps k task file is has
    ∙ ap (λ (b : Body). flat_map (upstream k graph) (inputs_of b) ++ file ∷ []) body
    ∙ ap (λ (files : List TaskFile). files ++ file ∷ []) (append-nil (upstream k graph input))

-- what stands behind the tasks before, where the tasks upstream of an input and then a file are pushed
pub pushed_behind : (graph : List TaskFile) (steps k task : ℕ) (file : TaskFile) (input : ℕ) (operation : Operation) (constant : ℤ) (before mid after : List TaskFile)
    → steps ≡ suc k → file_with graph task ≡ Some file → file.body ≡ Linked input operation constant → mid ≡ before ++ upstream k graph input
    → after ≡ mid ++ file ∷ [] → after ≡ before ++ upstream steps graph task
pushed_behind graph steps k task file input operation constant before mid after is has body first e =
    e
    ∙ ap (λ (files : List TaskFile). files ++ file ∷ []) first
    ∙ append_assoc before (upstream k graph input) (file ∷ [])
    ∙ ap (λ (files : List TaskFile). before ++ files) (sym (upstream-linked graph steps k task file input operation constant is has body))

-- each input of a known task is known, and no task leads back to itself
pub record IsSound (graph : List TaskFile) : Type 0 where
  pub linked : (task : ℕ) (file : TaskFile) (input : ℕ) (operation : Operation) (constant : ℤ) → file_with graph task ≡ Some file → file.body ≡ Linked input operation constant
      → (own : TaskFile) × (file_with graph input ≡ Some own)
  pub acyclic : (task : ℕ) (file : TaskFile) → file_with graph task ≡ Some file → leads (length graph) graph task task ≡ false

no_fault-by : (graph : List TaskFile) (file : TaskFile) (first : Option TaskFile) → ((own : TaskFile) → first ≡ Some own → is_some (unknown_input_of graph own) ≡ true)
    → (first ≡ None → is_some (unknown_input_of graph file) ≡ false) → option_and_then (unknown_input_of graph) first ≡ None
    → is_some (unknown_input_of graph file) ≡ false
no_fault-by graph file None has none e = none refl
no_fault-by graph file (Some own) has none e = let is : is_some (unknown_input_of graph own) ≡ false = ap is_some e in let yes = has own refl in cc

no_fault : (graph : List TaskFile) (task : ℕ) (file : TaskFile) → unknown_input graph ≡ None → file_with graph task ≡ Some file
    → is_some (unknown_input_of graph file) ≡ false
unfolding unknown_input
no_fault graph task file e has =
    no_fault-by graph file (find (λ own. is_some (unknown_input_of graph own)) graph)
    (passes (λ own. is_some (unknown_input_of graph own)) graph)
    (fails (λ own. own.task == task) (λ own. is_some (unknown_input_of graph own)) graph file has)
    e

known-by : (found : Option TaskFile) (input task : ℕ)
    → is_some (option_map (λ input. UnknownInput input task) (find (λ input. is_none found) (input ∷ []))) ≡ false → (own : TaskFile) × (found ≡ Some own)
known-by None input task e = cc
known-by (Some own) input task e = (own, refl)

input_known : (graph : List TaskFile) (file : TaskFile) (input : ℕ) (operation : Operation) (constant : ℤ) → file.body ≡ Linked input operation constant
    → is_some (unknown_input_of graph file) ≡ false → (own : TaskFile) × (file_with graph input ≡ Some own)
unfolding unknown_input_of
input_known graph file input operation constant body e =
    known-by (file_with graph input) input file.task
    (subst (λ (b : Body). is_some (option_map (λ input. UnknownInput input file.task) (find (λ input. is_none (file_with graph input)) (inputs_of b))) ≡ false) body e)

no_way_back : (graph : List TaskFile) (task : ℕ) (file : TaskFile) → cycle graph ≡ None → file_with graph task ≡ Some file → leads (length graph) graph task task ≡ false
unfolding cycle
no_way_back graph task file e has =
    let back : TaskFile → Bool = λ own. leads (length graph) graph own.task own.task in
    let same : file.task ≡ task = found-task graph task file has in
    subst (λ t. leads (length graph) graph t t ≡ false) same (fails (λ own. own.task == task) back graph file has (unmapped (λ own. own.task) (find back graph) e))

-- the graph of a build that isn't refused
pub sound : (files : Files) → refusal_of_build files ≡ None → IsSound (build_graph files)
unfolding refusal_of_build
sound files accepted =
    let graph = build_graph files in
    let placed = neither (option_map NotBuilt (not_built files)) (refusal_of_tasks (task_files files)) accepted in
    let distinct = neither (option_map DuplicateTask (duplicate_task (task_files files))) (refusal_of_graph graph) placed.1 in
    let known = neither (unknown_input graph) (option_map Cycle (cycle graph)) distinct.1 in
    let open_end : cycle graph ≡ None = unmapped Cycle (cycle graph) known.1 in
    record {
      linked = λ task file input operation constant has body. input_known graph file input operation constant body (no_fault graph task file known.0 has);
      acyclic = λ task file has. no_way_back graph task file open_end has;
    }
