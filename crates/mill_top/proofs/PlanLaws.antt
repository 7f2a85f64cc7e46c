-- Laws of plans.
use Rattle.std.proofs.Common.{◌≡◌, ◌≢◌, ℕ, ℤ, zero, suc, ◌≤◌, true, List, [], ◌∷◌, ◌++◌, length, map, Some, None, refl, sym, ap, subst, ◌∙◌, arith}
use Rattle.std.specs.List.{AllByRecursion}
use Rattle.io_traits.specs.Files.{Files}
use Rattle.mill_top.specs.declared.operation.Operation.{Operation}
use Rattle.mill_top.specs.declared.task_file.Body.{Body}
use Rattle.mill_top.specs.declared.task_file.Body.TheVariants.{Constant, Linked}
use Rattle.mill_top.specs.declared.task_file.TaskFile.{TaskFile}
use Rattle.mill_top.specs.Chains.{latest, IsLink, IsChain}
use Rattle.mill_top.specs.Graphs.{file_with, build_graph, named, task_in, task_name, inputs_of, refusal_of_build, upstream, plan_in, plan}
use Rattle.mill_top.proofs.GraphLaws.{IsSound, sound, upstream-constant, upstream-linked}
use Rattle.mill_top.proofs.TableLaws.{found-task}
use Rattle.mill_top.proofs.TaskLaws.{known-within}
use Rattle.mill_top.proofs.WayLaws.{IsKind, absent, constant, linked, kind, inputs-linked, way, way-absent, way-constant, way-linked, fresh, ends, ends-linked, ended}

-- the task that has a name
pub named-is : (graph : List TaskFile) (task : List ℕ) (file : TaskFile) → named graph task ≡ Some file → (task ≡ task_name file) × (file_with graph file.task ≡ Some file)
named-is graph [] file e = cc
named-is graph (task ∷ []) file e =
    let same : file.task ≡ task = found-task graph task file e in
    (ap (λ t. t ∷ []) (sym same), ap (file_with graph) same ∙ e)
named-is graph (task ∷ next ∷ rest) file e = cc

-- a known task's name is one letter
pub task_is : (files : Files) (task : List ℕ) (file : TaskFile) → task_in files task ≡ Some file → (task ≡ task_name file) × (97 ≤ file.task) × (file.task ≤ 122)
task_is files task file e =
    let own = named-is (build_graph files) task file e in
    let within = known-within files file.task file own.1 in
    (own.0, within.low, within.high)

-- the names of files, the last first, before others
abbrev earlier : List TaskFile → List (List ℕ) → List (List ℕ)
earlier [] names = names
earlier (file ∷ files) names = earlier files (task_name file ∷ names)

earlier-append : (files : List TaskFile) (file : TaskFile) (names : List (List ℕ)) → earlier (files ++ file ∷ []) names ≡ task_name file ∷ earlier files names
earlier-append [] file names = refl
earlier-append (own ∷ files) file names = earlier-append files file (task_name own ∷ names)

abbrev way_names : List ℕ → List (List ℕ)
way_names tasks = map (λ task. task ∷ []) tasks

upstream-absent : (n : ℕ) (graph : List TaskFile) (task : ℕ) → file_with graph task ≡ None → upstream n graph task ≡ []
upstream-absent zero graph task has = refl
upstream-absent (suc n) graph task has = rw has refl

earlier-step : (n : ℕ) (graph : List TaskFile) (task : ℕ) → ((input : ℕ) → earlier (upstream n graph input) [] ≡ way_names (way n graph input)) → IsKind graph task
    → earlier (upstream (suc n) graph task) [] ≡ way_names (way (suc n) graph task)
earlier-step n graph task further (absent has) =
    ap (λ files. earlier files []) (upstream-absent (suc n) graph task has) ∙ ap way_names (sym (way-absent n graph task has))
earlier-step n graph task further (constant file value has body) =
    ap (λ files. earlier files []) (upstream-constant graph (suc n) n task file value refl has body)
    ∙ ap (λ t. (t ∷ []) ∷ []) (found-task graph task file has)
    ∙ ap way_names (sym (way-constant n graph task file value has body))
earlier-step n graph task further (linked file input operation value has body) =
    ap (λ files. earlier files []) (upstream-linked graph (suc n) n task file input operation value refl has body)
    ∙ earlier-append (upstream n graph input) file []
    ∙ ap (λ t. (t ∷ []) ∷ earlier (upstream n graph input) []) (found-task graph task file has)
    ∙ ap (λ names. (task ∷ []) ∷ names) (further input)
    ∙ ap way_names (sym (way-linked n graph task file input operation value has body))

-- the names of the tasks upstream, the last first, are those on the way
earlier-upstream : (n : ℕ) (graph : List TaskFile) (task : ℕ) → earlier (upstream n graph task) [] ≡ way_names (way n graph task)
earlier-upstream zero graph task = refl
earlier-upstream (suc n) graph task = earlier-step n graph task (earlier-upstream n graph) (kind graph task)

chain-append : (files : Files) (names : List (List ℕ)) (chain : List TaskFile) (file : TaskFile) → IsChain files names chain → IsLink files (earlier chain names) file
    → IsChain files names (chain ++ file ∷ [])
chain-append files names [] file is link = (link, tt)
chain-append files names (own ∷ chain) file is link = (is.0, chain-append files (task_name own ∷ names) chain file is.1 link)

all-named : (task : ℕ) (tasks : List ℕ) → AllByRecursion (λ goal. goal ≢ task) tasks → AllByRecursion (λ name. name ≢ task ∷ []) (way_names tasks)
all-named task [] all = tt
all-named task (own ∷ tasks) all = ((λ same. all.0 (cc)), all-named task tasks all.1)

first_link : (files : Files) (task : ℕ) (file : TaskFile) (value : ℤ) → file_with (build_graph files) task ≡ Some file → file.body ≡ Constant value → IsLink files [] file
first_link files task file value has body =
    let within = known-within files task file has in
    record {
      known = ap (file_with (build_graph files)) (found-task (build_graph files) task file has) ∙ has;
      low = within.low;
      high = within.high;
      inputs = ap (λ (b : Body). map (λ input. input ∷ []) (inputs_of b)) body;
      fresh = tt;
    }

latest-way : (n : ℕ) (graph : List TaskFile) (task : ℕ) (own : TaskFile) → file_with graph task ≡ Some own → ends n graph task ≡ true → latest (way_names (way n graph task)) ≡ (task ∷ []) ∷ []
latest-way zero graph task own has on = cc
latest-way (suc n) graph task own has on = rw has refl

next_link : (files : Files) (n task : ℕ) (file : TaskFile) (input : ℕ) (operation : Operation) (value : ℤ) → IsSound (build_graph files) → n ≤ length (build_graph files)
    → file_with (build_graph files) task ≡ Some file → file.body ≡ Linked input operation value → ends n (build_graph files) input ≡ true
    → IsLink files (way_names (way n (build_graph files) input)) file
next_link files n task file input operation value is_sound short has body on =
    let graph = build_graph files in
    let within = known-within files task file has in
    let same : file.task ≡ task = found-task graph task file has in
    let at = is_sound.linked task file input operation value has body in
    let new = all-named task (way n graph input) (fresh n graph task file input is_sound short has (inputs-linked graph task file input operation value has body)) in
    record {
      known = ap (file_with graph) same ∙ has;
      low = within.low;
      high = within.high;
      inputs = ap (λ (b : Body). map (λ input. input ∷ []) (inputs_of b)) body ∙ sym (latest-way n graph input at.0 at.1 on);
      fresh = subst (λ t. AllByRecursion (λ name. name ≢ t ∷ []) (way_names (way n graph input))) (sym same) new;
    }

chain-step : (files : Files) (n task : ℕ) → IsSound (build_graph files) → n ≤ length (build_graph files) → ends (suc n) (build_graph files) task ≡ true
    → ((input : ℕ) → ends n (build_graph files) input ≡ true → IsChain files [] (upstream n (build_graph files) input)) → IsKind (build_graph files) task
    → IsChain files [] (upstream (suc n) (build_graph files) task)
chain-step files n task is_sound short on further (absent has) =
    subst (IsChain files []) (sym (upstream-absent (suc n) (build_graph files) task has)) tt
chain-step files n task is_sound short on further (constant file value has body) =
    subst (IsChain files []) (sym (upstream-constant (build_graph files) (suc n) n task file value refl has body)) (first_link files task file value has body, tt)
chain-step files n task is_sound short on further (linked file input operation value has body) =
    let graph = build_graph files in
    let is = inputs-linked graph task file input operation value has body in
    let rest : ends n graph input ≡ true = sym (ends-linked n graph task input is) ∙ on in
    let link = next_link files n task file input operation value is_sound short has body rest in
    subst (IsChain files []) (sym (upstream-linked graph (suc n) n task file input operation value refl has body))
    (chain-append files [] (upstream n graph input) file (further input rest) (subst (λ names. IsLink files names file) (sym (earlier-upstream n graph input)) link))

upstream-chain : (files : Files) (n task : ℕ) → IsSound (build_graph files) → n ≤ suc (length (build_graph files)) → ends n (build_graph files) task ≡ true
    → IsChain files [] (upstream n (build_graph files) task)
upstream-chain files zero task is_sound short on = tt
upstream-chain files (suc n) task is_sound short on =
    chain-step files n task is_sound (omega arith) on (λ input rest. upstream-chain files n input is_sound (omega arith) rest) (kind (build_graph files) task)

-- the plan of a task is a chain of distinct tasks
pub plan-chain : (files : Files) (task : List ℕ) (file : TaskFile) → refusal_of_build files ≡ None → task_in files task ≡ Some file → IsChain files [] (plan files task)
unfolding plan_in
plan-chain files task file accepted e =
    let graph = build_graph files in
    let own = named-is graph task file e in
    let is_sound = sound files accepted in
    subst (λ t. IsChain files [] (plan files t)) (sym own.0)
    (upstream-chain files (length graph) file.task is_sound (omega arith) (ended graph file.task file is_sound own.1))

last-step : (n : ℕ) (graph : List TaskFile) (task : ℕ) (file : TaskFile) → file_with graph task ≡ Some file → IsKind graph task
    → (front : List TaskFile) × (upstream (suc n) graph task ≡ front ++ file ∷ [])
last-step n graph task file known (absent has) = cc
last-step n graph task file known (constant own value has body) =
    let same : own ≡ file = cc in
    ([], upstream-constant graph (suc n) n task own value refl has body ∙ ap (λ (f : TaskFile). f ∷ []) same)
last-step n graph task file known (linked own input operation value has body) =
    let same : own ≡ file = cc in
    (upstream n graph input, upstream-linked graph (suc n) n task own input operation value refl has body ∙ ap (λ (f : TaskFile). upstream n graph input ++ f ∷ []) same)

last-upstream : (n : ℕ) (graph : List TaskFile) (task : ℕ) (file : TaskFile) → file_with graph task ≡ Some file → ends n graph task ≡ true
    → (front : List TaskFile) × (upstream n graph task ≡ front ++ file ∷ [])
last-upstream zero graph task file known on = cc
last-upstream (suc n) graph task file known on = last-step n graph task file known (kind graph task)

-- its last is the file of the task
pub plan-last : (files : Files) (task : List ℕ) (file : TaskFile) → refusal_of_build files ≡ None → task_in files task ≡ Some file
    → (front : List TaskFile) × (plan files task ≡ front ++ file ∷ [])
unfolding plan_in
plan-last files task file accepted e =
    let graph = build_graph files in
    let own = named-is graph task file e in
    let last = last-upstream (length graph) graph file.task file own.1 (ended graph file.task file (sound files accepted) own.1) in
    (last.0, ap (plan files) own.0 ∙ last.1)
