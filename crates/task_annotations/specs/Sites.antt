-- The methods of classes that are to be tasks, in file order, and how many there may be.
use Rattle.std.specs.Prelude.{ℕ, ◌+◌, Bool, ◌&&◌, nat_lt, List, [], ◌∷◌, ◌++◌, length, codes, Option, Some, None, if◌then◌else◌}
use Rattle.std.specs.List.{list_any}
use Rattle.class_model.specs.declared.constant_pool.Pool.{Pool}
use Rattle.class_model.specs.declared.annotation.Note.{Note, out-Note}
use Rattle.class_model.specs.declared.annotation.Pair.{Pair, out-Pair}
use Rattle.class_model.specs.declared.class_file.Class.{Class}
use Rattle.class_model.specs.declared.class_file.Member.{Member}
use Rattle.class_model.specs.declared.identifiers.ClassId.TheVariants.{Own}
use Rattle.class_model.specs.declared.identifiers.MemberId.{MemberId}
use Rattle.class_model.specs.Constants.{is_some_that}
use Rattle.task_graph.specs.declared.fault.Limit.{Limit}
use Rattle.task_graph.specs.declared.fault.Limit.TheVariants.{Tasks, Inputs}
use Rattle.task_annotations.specs.Annotations.{is_of_task, annotations_in, is_pair_of, array_in}

-- a method of a class, and its place
pub record Site : Type 0 where
  pub class : Class
  pub method : Member
  pub member : MemberId

abbrev pub is_task : Pool → Member → Bool
is_task pool m = list_any (is_of_task pool) (annotations_in m.attributes)

abbrev pub site : Class → ℕ → ℕ → Member → Site
site c at place m = record { class = c; method = m; member = record { class = Own at; at = place } }

abbrev pub with_site : Bool → Site → List Site → List Site
with_site task s more = if task then s ∷ more else more

-- the tasks among methods of a class, the first of which has a place
abbrev pub sites_from : Class → ℕ → ℕ → List Member → List Site
sites_from c at place [] = []
sites_from c at place (m ∷ methods) = with_site (is_task c.pool m) (site c at place m) (sites_from c at (place + 1) methods)

-- those of classes, the first of which has a place
abbrev pub sites_of_from : ℕ → List Class → List Site
sites_of_from at [] = []
sites_of_from at (c ∷ classes) = sites_from c at 0 c.methods ++ sites_of_from (at + 1) classes

unfoldable pub sites_of : List Class → List Site
sites_of classes = sites_of_from 0 classes

-- limits

abbrev pub is_long : Pool → Pair → Bool
is_long pool p = is_pair_of pool (codes "inputs") p && is_some_that (λ vs. nat_lt 64 (length vs)) (array_in (out-Pair p).value)

abbrev pub has_long : Pool → Note → Bool
has_long pool note = is_of_task pool note && list_any (is_long pool) (out-Note note).pairs

-- a Task annotation of the method names more than 64 inputs
abbrev pub has_many_inputs : Site → Bool
has_many_inputs s = list_any (has_long s.class.pool) (annotations_in s.method.attributes)

-- the limit that is passed, of two the tasks'
abbrev pub limit_passed : List Site → Option Limit
limit_passed sites =
    if nat_lt 4096 (length sites) then Some Tasks
    else if list_any has_many_inputs sites then Some Inputs
    else None
