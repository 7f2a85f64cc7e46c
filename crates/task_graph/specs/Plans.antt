-- What is evaluated for the chosen tasks, and what is run together.
use Rattle.std.specs.Prelude.{ℕ, Bool, not, ◌==◌, slice_index, List, [], ◌∷◌, ◌++◌, if◌then◌else◌, length, filter}
use Rattle.std.specs.List.{range_with_len}
use Rattle.place_graph.specs.Graphs.{is_among}
use Rattle.task_model.specs.declared.task_row.TaskRow.{TaskRow}
use Rattle.task_graph.specs.PostOrders.{post_order}
use Rattle.task_graph.specs.TaskGraphs.{edges, anonymous_edges, is_anonymous}

abbrev pub is_named : List TaskRow → ℕ → Bool
is_named rows task = not (is_anonymous rows task)

-- the chosen ones of so many tasks in name order, which is that of their places
abbrev pub in_name_order : ℕ → List ℕ → List ℕ
in_name_order count chosen = filter (λ task. is_among task chosen) (range_with_len 0 count)

-- of so many places those that are marked
abbrev pub marked_places : List ℕ → ℕ → List ℕ
marked_places marks count = filter (λ place. slice_index marks place == 1) (range_with_len 0 count)

-- with a place at its end, if that is marked
abbrev pub with_marked : List ℕ → List ℕ → ℕ → List ℕ
with_marked marks found place = if slice_index marks place == 1 then found ++ place ∷ [] else found

-- The named tasks upstream of the chosen ones and these themselves, in post-order from the chosen ones in name order. An
-- anonymous task is walked through and left out.
unfoldable pub plan : List TaskRow → List ℕ → List ℕ
plan rows chosen = filter (is_named rows) (post_order (edges rows) (in_name_order (length rows) chosen))

-- a task, after the anonymous tasks that it reaches through anonymous tasks alone, in post-order
unfoldable pub group : List TaskRow → ℕ → List ℕ
group rows task = post_order (anonymous_edges rows) (task ∷ [])
