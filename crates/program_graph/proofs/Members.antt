-- The methods of shaped classes that are to be tasks are methods of shaped classes.
use Rattle.std.proofs.Common.{ℕ, ◌+◌, Bool, true, false, List, [], ◌∷◌, All}
use Rattle.std.proofs.lemmas.List.Elements.{All-nil, All-cons, All-head, All-tail, All-append}
use Rattle.class_model.specs.declared.class_file.Class.{Class}
use Rattle.class_model.specs.declared.class_file.Member.{Member}
use Rattle.class_model.specs.Shape.{Shaped, IsMethod}
use Rattle.class_verify.proofs.Sizes.{all_methods}
use Rattle.task_annotations.specs.Sites.{Site, is_task, site, with_site, sites_from, sites_of_from, sites_of}

abbrev IsWell : Site → Type 0
IsWell s = Shaped s.class × IsMethod s.class.pool s.method

from-well : (c : Class) (at place : ℕ) (methods : List Member) → Shaped c → All (IsMethod c.pool) methods → All IsWell (sites_from c at place methods)
from-well c at place [] shaped all = All-nil IsWell
from-well c at place (m ∷ methods) shaped all =
    go (is_task c.pool m) (from-well c at (place + 1) methods shaped (All-tail (IsMethod c.pool) m methods all))
  where
    go : (b : Bool) → All IsWell (sites_from c at (place + 1) methods) → All IsWell (with_site b (site c at place m) (sites_from c at (place + 1) methods))
    go true rest = All-cons IsWell (site c at place m) _ (shaped, All-head (IsMethod c.pool) m methods all) rest
    go false rest = rest

of-well : (at : ℕ) (classes : List Class) → All Shaped classes → All IsWell (sites_of_from at classes)
of-well at [] all = All-nil IsWell
of-well at (c ∷ classes) all =
    let shaped = All-head Shaped c classes all in
    All-append IsWell (sites_from c at 0 c.methods) (sites_of_from (at + 1) classes)
    (from-well c at 0 c.methods shaped (all_methods c shaped)) (of-well (at + 1) classes (All-tail Shaped c classes all))

pub sites-well : (classes : List Class) → All Shaped classes → All IsWell (sites_of classes)
unfolding sites_of
sites-well classes all = of-well 0 classes all
